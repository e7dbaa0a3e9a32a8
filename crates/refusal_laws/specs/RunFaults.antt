-- Why a run is refused that changes the installed packages. The refusals are in `docs/commands.md`,
-- "Commands that recover first" and "`add` and `del`".
use Rattle.std.specs.Prelude.{◌≡◌, ◌⊎◌, ℕ, List, Option, Some, None}
use Rattle.base_core.specs.Files.{Files}
use Rattle.base_core.specs.declared.cause.Cause.{Cause}
use Rattle.command_core.specs.Command.{CommandLine}
use Rattle.outcome.specs.engine_core.Choice.{IsPreferredChoiceOrNoneIfRefused}
use Rattle.outcome.specs.engine_core.Selecting.{pool_of_command}
use Rattle.outcome.specs.journal_core.Recovery.{intent_name}
use Rattle.outcome.specs.journal_core.Staged.{unstaged_files}
use Rattle.outcome.specs.Commands.{reads_in}
use Rattle.outcome.specs.Work.{fault_of_intent}
use Rattle.report_core.specs.declared.refusal.Refusal.{Refusal}
use Rattle.report_core.specs.declared.refusal.Refusal.TheVariants.{IntentBad}
use Rattle.refusal_laws.specs.CommandFaults.{IsFaultOfCommandByCandidatePlaces}

-- a refusal of the command is true over the files on which it works after recovery, with the candidates of the first
-- preferred selection
pub record IsFaultOfCommandOverFiles (command : CommandLine) (files : Files)
    (refusal : Refusal) : Type 0 where
  -- the places of the candidates of the first preferred selection, if there is one
  pub chosen : Option (List ℕ)
  pub choice : IsPreferredChoiceOrNoneIfRefused (pool_of_command command (reads_in files)) chosen
  -- the refusal of the command is true for these candidates
  pub fault : IsFaultOfCommandByCandidatePlaces command (reads_in files) files chosen refusal

-- the intent (journal entry) among these files fails a test, and the refusal reports the first such test
pub record IsIntentRefusal (files : Files) (refusal : Refusal) : Type 0 where
  -- the first test that the intent fails
  pub cause : Cause
  pub bad : fault_of_intent (files intent_name) ≡ Some cause
  -- the refusal reports this cause
  pub told : refusal ≡ IntentBad cause

-- a refusal of a run that begins with these files is true: of a bad intent (journal entry), before all else; or of the
-- command, which works on the recovered files
abbrev pub IsFaultOfRun : CommandLine → Files → Refusal → Type 0
IsFaultOfRun command files refusal =
    IsIntentRefusal files refusal
    ⊎ ((fault_of_intent (files intent_name) ≡ None)
    × IsFaultOfCommandOverFiles command (unstaged_files files) refusal)
