-- A command that makes a file commits where it is not refused; and a refusal commits nothing.
use Rattle.std.proofs.Common.{◌≡◌, ◌⊎◌, inl, inr, ℕ, Bool, true, false, List, [], length, Option, Some, None, IsSome, Result, Ok, Err, refl, sym, ap, subst, ◌∙◌, true≢false}
use Rattle.std.specs.Prelude.{if◌then◌else◌, is_some, not, IsTrue}
use Rattle.gen_core.specs.adb_schema.Reserved.{is_reserved}
use Rattle.base_core.specs.Files.{Files}
use Rattle.base_core.specs.declared.cause.Cause.{Cause}
use Rattle.command_core.specs.Command.{CommandLine}
use Rattle.command_core.specs.declared.command.Applet.{Applet}
use Rattle.command_core.specs.declared.command.Applet.TheVariants.{Mkndx, Mkpkg}
use Rattle.make_core.specs.Index.{made_index}
use Rattle.make_core.specs.make_info.Output.{output_name}
use Rattle.make_core.specs.make_info.declared.fault.MakeFault.{MakeFault}
use Rattle.make_core.specs.make_info.declared.fault.MakeFault.TheVariants.{FileMissing, FileBad, InfoBad, TooLarge, Disk, Memory}
use Rattle.make_core.specs.Making.{made_package}
use Rattle.engine_core.specs.change_outcome.ChangeOutcome.{ChangeDone}
use Rattle.engine_core.specs.Changed.{change_of_command}
use Rattle.report_core.specs.declared.refusal.Refusal.{Refusal}
use Rattle.report_core.specs.declared.refusal.Refusal.TheVariants.{Reserved, ResultTooLarge}
use Rattle.tell_core.specs.ReportForCommand.{report_for_command}
use Rattle.words_core.specs.Grammar.{command_of}
use Rattle.outcome.proofs.Applets.{change_is, report_is, told_commits, told_files}
use Rattle.outcome.proofs.MadeSound.{IsRefusalOrMade, index_fine, package_fine}
use Rattle.outcome.specs.Changing.{change_outcome}
use Rattle.outcome.specs.Given.{Given}
use Rattle.outcome.specs.Commands.{IsOutcomeWithoutDemo, IsOutcomeUnlessBadIntent, effect_outcome, reads_in}
use Rattle.outcome.specs.Effect.{Effect, Computes, OnlyReadsFiles, AsksRoot, Makes, Changes, does_neither_recover_nor_write, effect_of_arguments, effect_of, do_arguments_neither_recover_nor_write}
use Rattle.outcome.specs.Make.{files_with_output, index_report_line, make_outcome, outcome_unless_output_reserved}
use Rattle.outcome.specs.Outcome.{Outcome, commit_report, just_refusal}
use Rattle.outcome.specs.Work.{recovery_fault, files_recovered_if_needed}

-- it commits, or is refused, and not both
abbrev pub CommitsUnlessRefused : Outcome → Type 0
CommitsUnlessRefused o = o.commits ≡ not (is_some o.refusal)

unless_name : (reserved : Bool) (files : Files) (name : List ℕ) (o : Outcome) → CommitsUnlessRefused o → CommitsUnlessRefused (if reserved then just_refusal files (Reserved name) else o)
unless_name true files name o h = refl
unless_name false files name o h = h

unless_output : (files : Files) (output : Option (List ℕ)) (o : Outcome) → CommitsUnlessRefused o → CommitsUnlessRefused (outcome_unless_output_reserved files output o)
unless_output files None o h = h
unless_output files (Some name) o h = unless_name (is_reserved name) files name o h

made_commits : (files : Files) (output : Option (List ℕ)) (report : List ℕ) (result : Result (List ℕ) MakeFault) → IsRefusalOrMade result → CommitsUnlessRefused (make_outcome files output report result)
made_commits files output report (Ok bytes) fine = unless_output files output (commit_report (files_with_output output bytes files) report) refl
made_commits files output report (Err (FileMissing place)) fine = refl
made_commits files output report (Err (FileBad place cause)) fine = refl
made_commits files output report (Err (InfoBad place)) fine = refl
made_commits files output report (Err (TooLarge bytes values)) fine = unless_output files output (just_refusal files (ResultTooLarge bytes values)) refl
made_commits files output report (Err Disk) fine = absurd fine
made_commits files output report (Err Memory) fine = absurd fine

applet_commits : (applet : Applet) (command : CommandLine) (given : Given) (files : Files) → effect_of applet ≡ Makes → CommitsUnlessRefused (effect_outcome (effect_of applet) applet command given (reads_in files) files)
applet_commits Mkpkg command given files makes = made_commits files (output_name command) [] (made_package command given.names (reads_in files)) (package_fine command given.names (reads_in files))
applet_commits Mkndx command given files makes = made_commits files (output_name command) (index_report_line (length command.operands)) (made_index command (reads_in files)) (index_fine command (reads_in files))
applet_commits other command given files makes = cc

commits_unless : (fault : Option Cause) (command : CommandLine) (files : Files) (o : Outcome) → effect_of command.applet ≡ Makes → IsOutcomeUnlessBadIntent fault command files o → CommitsUnlessRefused o
commits_unless (Some cause) command files o makes is = subst CommitsUnlessRefused (sym is) refl
commits_unless None command files o makes (given, are, is) = subst CommitsUnlessRefused (sym is) (applet_commits command.applet command given (files_recovered_if_needed (effect_of command.applet) files) makes)

commits_by : (read : Result CommandLine ℕ) (files : Files) (o : Outcome) → effect_of_arguments read ≡ Makes → IsOutcomeWithoutDemo read files o → CommitsUnlessRefused o
commits_by (Err place) files o makes is = cc
commits_by (Ok command) files o makes is = commits_unless (recovery_fault (effect_of command.applet) files) command files o makes is

pub maker_commits : (words : List (List ℕ)) (files : Files) (o : Outcome) → effect_of_arguments (command_of words) ≡ Makes → IsOutcomeWithoutDemo (command_of words) files o → CommitsUnlessRefused o
maker_commits words files o makes is = commits_by (command_of words) files o makes is

-- ---- a change

-- where it is refused it commits nothing
abbrev CommitsNoRefusal : Outcome → Type 0
CommitsNoRefusal o = IsSome o.refusal → o.commits ≡ false

change_commits : (files : Files) (result : Result ChangeDone Refusal) → CommitsNoRefusal (change_outcome files result)
change_commits files (Ok done) some = absurd (true≢false (sym some))
change_commits files (Err refusal) some = refl

applet_changes : (applet : Applet) (command : CommandLine) (given : Given) (files : Files) → effect_of applet ≡ Changes → CommitsNoRefusal (effect_outcome (effect_of applet) applet command given (reads_in files) files)
applet_changes applet command given files changes =
    subst CommitsNoRefusal (change_is applet command given (reads_in files) files changes) (change_commits files (change_of_command command (reads_in files) files given.chosen given.clash))

changes_unless : (fault : Option Cause) (command : CommandLine) (files : Files) (o : Outcome) → effect_of command.applet ≡ Changes → IsOutcomeUnlessBadIntent fault command files o → CommitsNoRefusal o
changes_unless (Some cause) command files o changes is = λ some. ap (λ (p : Outcome). p.commits) is
changes_unless None command files o changes (given, are, is) = subst CommitsNoRefusal (sym is) (applet_changes command.applet command given (files_recovered_if_needed (effect_of command.applet) files) changes)

changes_by : (read : Result CommandLine ℕ) (files : Files) (o : Outcome) → effect_of_arguments read ≡ Changes → IsOutcomeWithoutDemo read files o → CommitsNoRefusal o
changes_by (Err place) files o changes is = cc
changes_by (Ok command) files o changes is = changes_unless (recovery_fault (effect_of command.applet) files) command files o changes is

-- ---- a command that only reports

tells_unless : (fault : Option Cause) (command : CommandLine) (files : Files) (o : Outcome) → effect_of command.applet ≡ AsksRoot → IsOutcomeUnlessBadIntent fault command files o → o.commits ≡ false
tells_unless (Some cause) command files o tells is = ap (λ (p : Outcome). p.commits) is
tells_unless None command files o tells (given, are, is) =
    let work = files_recovered_if_needed (effect_of command.applet) files in
    ap (λ (p : Outcome). p.commits) (is ∙ sym (report_is command.applet command given (reads_in work) work tells))
    ∙ told_commits work (report_for_command command (reads_in work))

tells_by : (read : Result CommandLine ℕ) (files : Files) (o : Outcome) → effect_of_arguments read ≡ AsksRoot → IsOutcomeWithoutDemo read files o → o.commits ≡ false
tells_by (Err place) files o tells is = cc
tells_by (Ok command) files o tells is = tells_unless (recovery_fault (effect_of command.applet) files) command files o tells is

-- it commits nothing
pub teller_commits : (words : List (List ℕ)) (files : Files) (o : Outcome) → effect_of_arguments (command_of words) ≡ AsksRoot → IsOutcomeWithoutDemo (command_of words) files o → o.commits ≡ false
teller_commits words files o tells is = tells_by (command_of words) files o tells is

tells_files : (fault : Option Cause) (command : CommandLine) (files : Files) (o : Outcome) → effect_of command.applet ≡ AsksRoot → IsOutcomeUnlessBadIntent fault command files o → (o.files ≡ files) ⊎ (o.files ≡ files_recovered_if_needed AsksRoot files)
tells_files (Some cause) command files o tells is = inl (ap (λ (p : Outcome). p.files) is)
tells_files None command files o tells (given, are, is) =
    let work = files_recovered_if_needed (effect_of command.applet) files in
    inr (
    ap (λ (p : Outcome). p.files) (is ∙ sym (report_is command.applet command given (reads_in work) work tells))
    ∙ told_files work (report_for_command command (reads_in work))
    ∙ ap (λ (e : Effect). files_recovered_if_needed e files) tells
    )

files_by : (read : Result CommandLine ℕ) (files : Files) (o : Outcome) → effect_of_arguments read ≡ AsksRoot → IsOutcomeWithoutDemo read files o → (o.files ≡ files) ⊎ (o.files ≡ files_recovered_if_needed AsksRoot files)
files_by (Err place) files o tells is = cc
files_by (Ok command) files o tells is = tells_files (recovery_fault (effect_of command.applet) files) command files o tells is

-- and leaves the files that a recovery leaves
pub teller_files : (words : List (List ℕ)) (files : Files) (o : Outcome) → effect_of_arguments (command_of words) ≡ AsksRoot → IsOutcomeWithoutDemo (command_of words) files o → (o.files ≡ files) ⊎ (o.files ≡ files_recovered_if_needed AsksRoot files)
teller_files words files o tells is = files_by (command_of words) files o tells is

-- ---- a refusal

refused_maker : (o : Outcome) → CommitsUnlessRefused o → IsSome o.refusal → o.commits ≡ false
refused_maker o h some = h ∙ ap not some

-- a command only reads, tells, makes a file, or changes what is installed
effect_cases : (effect : Effect) → (IsTrue (does_neither_recover_nor_write effect)) ⊎ ((effect ≡ AsksRoot) ⊎ ((effect ≡ Makes) ⊎ (effect ≡ Changes)))
effect_cases Computes = inl refl
effect_cases OnlyReadsFiles = inl refl
effect_cases AsksRoot = inr (inl refl)
effect_cases Makes = inr (inr (inl refl))
effect_cases Changes = inr (inr (inr refl))

line_cases : (read : Result CommandLine ℕ) → (IsTrue (do_arguments_neither_recover_nor_write read)) ⊎ ((effect_of_arguments read ≡ AsksRoot) ⊎ ((effect_of_arguments read ≡ Makes) ⊎ (effect_of_arguments read ≡ Changes)))
line_cases (Err place) = inl refl
line_cases (Ok command) = effect_cases (effect_of command.applet)

pub refusal_commits : (words : List (List ℕ)) (files : Files) (o : Outcome) → IsOutcomeWithoutDemo (command_of words) files o → (IsTrue (do_arguments_neither_recover_nor_write (command_of words)) → o.commits ≡ false) → (effect_of_arguments (command_of words) ≡ AsksRoot → o.commits ≡ false) → (effect_of_arguments (command_of words) ≡ Makes → CommitsUnlessRefused o) → IsSome o.refusal → o.commits ≡ false
refusal_commits words files o is reads tell makes some = elim (line_cases (command_of words)) as (λ _. o.commits ≡ false) [
  | inl only ↦ reads only
  | inr (inl tells) ↦ tell tells
  | inr (inr (inl made)) ↦ refused_maker o (makes made) some
  | inr (inr (inr changes)) ↦ changes_by (command_of words) files o changes is some
]
