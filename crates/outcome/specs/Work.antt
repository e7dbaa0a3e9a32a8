-- The files on which a command works, and why it may not begin. The rules are in `docs/commands.md`,
-- "Commands that recover first", and in `docs/crash-safety.md`, "Recovery".
use Rattle.std.specs.Prelude.{ℕ, List, Option, Some, None}
use Rattle.gen_core.specs.adb_schema.Soundness.{container_fault_except_contents}
use Rattle.adb_view.specs.declared.tables.Which.TheVariants.{Intent as IntentTable}
use Rattle.base_core.specs.Files.{Files}
use Rattle.base_core.specs.declared.cause.Cause.{Cause}
use Rattle.engine_core.specs.journal_core.Recovery.{intent_name}
use Rattle.engine_core.specs.journal_core.Staged.{unstaged_files}
use Rattle.outcome.specs.Effect.{Effect, Computes, OnlyReadsFiles, AsksRoot, Makes, Changes}

-- the files on which a command works: the recovered files, if it recovers
abbrev pub files_recovered_if_needed : Effect → Files → Files
files_recovered_if_needed Computes files = files
files_recovered_if_needed OnlyReadsFiles files = files
files_recovered_if_needed AsksRoot files = unstaged_files files
files_recovered_if_needed Makes files = unstaged_files files
files_recovered_if_needed Changes files = unstaged_files files

-- the first test of an intent that the file under the intent's name fails; without a file there is no fault
abbrev pub fault_of_intent : Option (List ℕ) → Option Cause
fault_of_intent None = None
fault_of_intent (Some file) = container_fault_except_contents IntentTable file

-- the fault of the intent in these files, if the command recovers; a command with such a fault is refused
abbrev pub recovery_fault : Effect → Files → Option Cause
recovery_fault Computes files = None
recovery_fault OnlyReadsFiles files = None
recovery_fault AsksRoot files = fault_of_intent (files intent_name)
recovery_fault Makes files = fault_of_intent (files intent_name)
recovery_fault Changes files = fault_of_intent (files intent_name)
