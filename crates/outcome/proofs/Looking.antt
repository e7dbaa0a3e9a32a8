-- A command that only reads leaves the files, and commits nothing.
use Rattle.std.proofs.Common.{◌≡◌, ℕ, Bool, true, false, List, [], ◌∷◌, Option, Some, None, Result, Ok, Err, refl, sym, ap, subst}
use Rattle.std.specs.Prelude.{if◌then◌else◌}
use Rattle.std.proofs.lemmas.Bool.{false≢true}
use Rattle.base_core.specs.Files.{Files}
use Rattle.base_core.specs.declared.cause.Cause.{Cause}
use Rattle.command_core.specs.Command.{CommandLine}
use Rattle.command_core.specs.Files.{without_one_leading_dot_slash}
use Rattle.command_core.specs.declared.command.Applet.{Applet}
use Rattle.command_core.specs.declared.command.Applet.TheVariants.{Adbdump, Adbgen, Verify, Version}
use Rattle.command_core.specs.declared.operands.Operand.{Operand}
use Rattle.gen_core.specs.Generated.{generated_file}
use Rattle.gen_core.specs.declared.generate.GenFault.{GenFault}
use Rattle.gen_core.specs.declared.generate.GenFault.TheVariants.{Bad, TooLarge, Memory}
use Rattle.make_core.specs.make_info.Reads.{Reads}
use Rattle.report_core.specs.declared.refusal.Refusal.{Refusal}
use Rattle.outcome.specs.Commands.{IsOutcomeWithoutDemo, IsOutcomeOverRecoveredFiles, IsOutcomeUnlessBadIntent, outcome_from_arguments_alone, effect_outcome, outcome_of_only_reading_files, reads_in}
use Rattle.outcome.specs.Dump.{adbdump, dump_of, dump_outcome, text_outcome}
use Rattle.outcome.specs.Effect.{Effect, Changes, Computes, Makes, OnlyReadsFiles, AsksRoot, does_neither_recover_nor_write, effect_of, do_arguments_neither_recover_nor_write}
use Rattle.outcome.specs.Generate.{adbgen, container_outcome, generate_outcome}
use Rattle.outcome.specs.Given.{Given}
use Rattle.outcome.specs.Outcome.{Outcome, outcome_without_commit, just_report_unless_refusal}
use Rattle.outcome.specs.Verify.{sound_lines, verify_refusal_from_read_number}
use Rattle.outcome.specs.Version.{invalid_version_lines, version_order_report, version_refusal}
use Rattle.outcome.specs.Work.{recovery_fault, files_recovered_if_needed}

abbrev pub LeavesFiles : Files → Outcome → Type 0
LeavesFiles files o = (o.files ≡ files) × (o.commits ≡ false)

-- ---- each such command

unless_leaves : (files : Files) (refusal : Option Refusal) (report : List ℕ) → LeavesFiles files (just_report_unless_refusal files refusal report)
unless_leaves files None report = (refl, refl)
unless_leaves files (Some refusal) report = (refl, refl)

text_leaves : (files : Files) (place : ℕ) (text : Result (List ℕ) Cause) → LeavesFiles files (text_outcome files place text)
text_leaves files place (Ok text) = (refl, refl)
text_leaves files place (Err cause) = (refl, refl)

dump_leaves : (files : Files) (place : ℕ) (found : Option (List ℕ)) → LeavesFiles files (dump_outcome files place found)
dump_leaves files place None = (refl, refl)
dump_leaves files place (Some bytes) = text_leaves files place (dump_of bytes)

adbdump_leaves : (read : Reads) (files : Files) (os : List Operand) → LeavesFiles files (adbdump read files os)
adbdump_leaves read files [] = (refl, refl)
adbdump_leaves read files (o ∷ os) = dump_leaves files o.place (read 0 (without_one_leading_dot_slash o.text))

container_leaves : (files : Files) (place : ℕ) (made : Result (List ℕ) GenFault) → LeavesFiles files (container_outcome files place made)
container_leaves files place (Ok file) = (refl, refl)
container_leaves files place (Err (Bad line)) = (refl, refl)
container_leaves files place (Err (TooLarge bytes values)) = (refl, refl)
container_leaves files place (Err Memory) = (refl, refl)

generate_leaves : (files : Files) (place : ℕ) (found : Option (List ℕ)) → LeavesFiles files (generate_outcome files place found)
generate_leaves files place None = (refl, refl)
generate_leaves files place (Some text) = container_leaves files place (generated_file text)

adbgen_leaves : (read : Reads) (files : Files) (os : List Operand) → LeavesFiles files (adbgen read files os)
adbgen_leaves read files [] = (refl, refl)
adbgen_leaves read files (o ∷ os) = generate_leaves files o.place (read 0 (without_one_leading_dot_slash o.text))

pub computing_leaves : (applet : Applet) (command : CommandLine) (files : Files) → LeavesFiles files (outcome_from_arguments_alone applet command files)
computing_leaves Version command files =
    elim command.flags.test as (λ b. LeavesFiles files (if b then just_report_unless_refusal files (version_refusal command.operands) (version_order_report command.operands) else outcome_without_commit (version_refusal command.operands) (invalid_version_lines command.operands) files)) [
      | true ↦ unless_leaves files (version_refusal command.operands) (version_order_report command.operands)
      | false ↦ (refl, refl)
    ]
computing_leaves other command files = (refl, refl)

pub reading_leaves : (applet : Applet) (command : CommandLine) (read : Reads) (files : Files) → LeavesFiles files (outcome_of_only_reading_files applet command read files)
reading_leaves Verify command read files = unless_leaves files (verify_refusal_from_read_number read 0 command.operands) (sound_lines command.operands)
reading_leaves Adbdump command read files = adbdump_leaves read files command.operands
reading_leaves Adbgen command read files = adbgen_leaves read files command.operands
reading_leaves other command read files = (refl, refl)

pub look_leaves : (effect : Effect) (applet : Applet) (command : CommandLine) (given : Given) (files : Files) → does_neither_recover_nor_write effect ≡ true → LeavesFiles files (effect_outcome effect applet command given (reads_in files) files)
look_leaves Computes applet command given files reads = computing_leaves applet command files
look_leaves OnlyReadsFiles applet command given files reads = reading_leaves applet command (reads_in files) files
look_leaves AsksRoot applet command given files reads = absurd (false≢true reads)
look_leaves Makes applet command given files reads = absurd (false≢true reads)
look_leaves Changes applet command given files reads = absurd (false≢true reads)

-- ---- by the words

pub no_fault : (effect : Effect) (files : Files) → does_neither_recover_nor_write effect ≡ true → recovery_fault effect files ≡ None
no_fault Computes files reads = refl
no_fault OnlyReadsFiles files reads = refl
no_fault AsksRoot files reads = absurd (false≢true reads)
no_fault Makes files reads = absurd (false≢true reads)
no_fault Changes files reads = absurd (false≢true reads)

pub same_files : (effect : Effect) (files : Files) → does_neither_recover_nor_write effect ≡ true → files_recovered_if_needed effect files ≡ files
same_files Computes files reads = refl
same_files OnlyReadsFiles files reads = refl
same_files AsksRoot files reads = absurd (false≢true reads)
same_files Makes files reads = absurd (false≢true reads)
same_files Changes files reads = absurd (false≢true reads)

pub read_leaves : (read : Result CommandLine ℕ) (files : Files) (o : Outcome) → do_arguments_neither_recover_nor_write read ≡ true → IsOutcomeWithoutDemo read files o → LeavesFiles files o
read_leaves (Err place) files o reads is = (ap (λ (p : Outcome). p.files) is, ap (λ (p : Outcome). p.commits) is)
read_leaves (Ok command) files o reads is =
    let effect = effect_of command.applet in
    let over : IsOutcomeOverRecoveredFiles command (files_recovered_if_needed effect files) o = subst (λ (f : Option Cause). IsOutcomeUnlessBadIntent f command files o) (no_fault effect files reads) is in
    let here : IsOutcomeOverRecoveredFiles command files o = subst (λ (work : Files). IsOutcomeOverRecoveredFiles command work o) (same_files effect files reads) over in
    subst (LeavesFiles files) (sym here.2) (look_leaves effect command.applet command here.0 files reads)
