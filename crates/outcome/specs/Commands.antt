-- The outcome of a command. `demo` is apart, since it runs other commands. The rules are in
-- `docs/commands.md`, "Commands that recover first", and in the section of each command.
use Rattle.std.specs.Prelude.{◌≡◌, ◌⊎◌, ℕ, true, List, [], Option, Some, None, Result, Ok, Err}
use Rattle.gen_core.specs.adb_schema.Soundness.{container_fault_except_contents}
use Rattle.adb_view.specs.declared.tables.Which.TheVariants.{Intent as IntentTable}
use Rattle.base_core.specs.Files.{Files, no_names}
use Rattle.base_core.specs.declared.cause.Cause.{Cause}
use Rattle.make_core.specs.make_info.Reads.{Reads}
use Rattle.report_core.specs.declared.refusal.Refusal.{Refusal}
use Rattle.report_core.specs.declared.refusal.Refusal.TheVariants.{IntentBad, Usage}
use Rattle.command_core.specs.Command.{CommandLine}
use Rattle.command_core.specs.declared.command.Applet.{Applet}
use Rattle.command_core.specs.declared.command.Applet.TheVariants.{Adbdump, Adbgen, Help, Mkndx, Mkpkg, ProgramVersion, Verify, Version}
use Rattle.engine_core.specs.ChangeRun.{IsRefusalOfPackageSpoiledSinceTested}
use Rattle.engine_core.specs.Changed.{change_of_command, packages_found_after_change, selected_from_reads_by_choice}
use Rattle.tell_core.specs.ReportForCommand.{report_for_command}
use Rattle.words_core.specs.HelpTexts.{help_text, version_line}
use Rattle.outcome.specs.Changing.{change_outcome}
use Rattle.outcome.specs.Dump.{adbdump}
use Rattle.outcome.specs.Effect.{Effect, Computes, OnlyReadsFiles, AsksRoot, Makes, Changes, does_recover, effect_of}
use Rattle.outcome.specs.Generate.{adbgen}
use Rattle.outcome.specs.Given.{Given, IsListingChoiceAndClashFor, IsPossibleListingChoiceAndClash}
use Rattle.outcome.specs.Make.{mkndx, mkpkg}
use Rattle.outcome.specs.Outcome.{Outcome, just_refusal, just_report}
use Rattle.outcome.specs.OutcomeOfReport.{outcome_of_report}
use Rattle.outcome.specs.Verify.{verify}
use Rattle.outcome.specs.Version.{version}
use Rattle.outcome.specs.Work.{recovery_fault, files_recovered_if_needed}

-- ---- the outcome of an applet

-- the outcome of an applet that reads its arguments only. The last line is for other applets, for which it is not used:
-- `demo`, among them, is defined in `Demo`
abbrev pub outcome_from_arguments_alone : Applet → CommandLine → Files → Outcome
outcome_from_arguments_alone Version command files = version files command.flags command.operands
outcome_from_arguments_alone Help command files = just_report files (help_text command.operands)
outcome_from_arguments_alone ProgramVersion command files = just_report files version_line
outcome_from_arguments_alone other command files = just_report files []

-- the outcome of an applet that only reads files, by what its reads find; the last line is for other applets, for which
-- it is not used
abbrev pub outcome_of_only_reading_files : Applet → CommandLine → Reads → Files → Outcome
outcome_of_only_reading_files Verify command read files = verify read files command.operands
outcome_of_only_reading_files Adbdump command read files = adbdump read files command.operands
outcome_of_only_reading_files Adbgen command read files = adbgen read files command.operands
outcome_of_only_reading_files other command read files = just_report files []

-- the outcome of an applet that makes a file, given the names below the folder of `mkpkg -F`; the last line is for
-- other applets, for which it is not used
abbrev pub outcome_of_writing_one_output_file : Applet → CommandLine → List (List ℕ) → Reads → Files
    → Outcome
outcome_of_writing_one_output_file Mkpkg command names read files = mkpkg read files command names
outcome_of_writing_one_output_file Mkndx command names read files = mkndx read files command
outcome_of_writing_one_output_file other command names read files = just_report files []

-- The outcome of a command, by its effect and its applet. It depends on `given` (listed names, chosen
-- candidates, first clash), on what the reads find, and on the files. All commands that only report
-- share one definition, and so do all changes.
abbrev pub effect_outcome : Effect → Applet → CommandLine → Given → Reads → Files → Outcome
effect_outcome Computes applet command given read files = outcome_from_arguments_alone applet command files
effect_outcome OnlyReadsFiles applet command given read files =
    outcome_of_only_reading_files applet command read files
effect_outcome AsksRoot applet command given read files = outcome_of_report files (report_for_command
    command read)
effect_outcome Makes applet command given read files =
    outcome_of_writing_one_output_file applet command given.names read files
effect_outcome Changes applet command given read files =
    change_outcome files (change_of_command command read files given.chosen given.clash)

-- ---- over the files of a tree

-- what reads find in these files: each file under its name
abbrev pub reads_in : Files → Reads
reads_in files n name = files name

-- the outcome of a command over these files, which are the recovered ones if the command recovers first
abbrev pub IsOutcomeOverRecoveredFiles : CommandLine → Files → Outcome → Type 0
IsOutcomeOverRecoveredFiles command files outcome =
    (given : Given)
    × IsListingChoiceAndClashFor command (reads_in files) files given
    × (outcome
    ≡ effect_outcome (effect_of command.applet) command.applet command given (reads_in files) files)

-- The outcome of a command, unless recovery is needed and fails. Then a bad intent is refused before
-- all else except a usage error, and nothing changes.
abbrev pub IsOutcomeUnlessBadIntent : Option Cause → CommandLine → Files → Outcome → Type 0
IsOutcomeUnlessBadIntent (Some cause) command files outcome =
    outcome ≡ just_refusal files (IntentBad cause)
IsOutcomeUnlessBadIntent None command files outcome =
    IsOutcomeOverRecoveredFiles command (files_recovered_if_needed (effect_of command.applet) files) outcome

-- the outcome of parsed arguments that do not name `demo`: a usage error is reported before any file is
-- read
abbrev pub IsOutcomeWithoutDemo : Result CommandLine ℕ → Files → Outcome → Type 0
IsOutcomeWithoutDemo (Err place) files outcome = outcome ≡ just_refusal files (Usage place)
IsOutcomeWithoutDemo (Ok command) files outcome =
    IsOutcomeUnlessBadIntent (recovery_fault (effect_of command.applet) files) command files outcome

-- ---- over a tree that is not observable, such as a folder of the host

-- The file of an added package is read once more when a change is committed. The change is refused if the file is no
-- longer what was tested. The refusal has the cause of some file with the length and the values that the first read
-- found, and with other contents.
pub record IsRefusedForPackageSpoiledSinceTested (command : CommandLine) (read : Reads) (given : Given)
    (files :
    Files)
    (outcome : Outcome) : Type 0 where
  -- the command changes what is installed
  pub changes : effect_of command.applet ≡ Changes
  -- without the refusal the outcome commits
  pub commits :
      (effect_outcome (effect_of command.applet) command.applet command given read files).commits
      ≡ true
  -- the refusal
  pub refusal : Refusal
  -- the refusal is that of a spoiled package among those that the reads find
  pub spoiled : IsRefusalOfPackageSpoiledSinceTested
      (packages_found_after_change command read
      (selected_from_reads_by_choice command read given.chosen)) refusal
  -- the outcome is this refusal, and the files are unchanged
  pub is : outcome ≡ just_refusal files refusal

-- on a tree that is not observable, an outcome of a command after recovery. It is one for some listing, some contents
-- at each read, some files, and the first clash of names among some present files; or an added package is refused as
-- spoiled
abbrev pub IsPossibleOutcomeAfterRecovery : CommandLine → Outcome → Type 0
IsPossibleOutcomeAfterRecovery command outcome =
    (given : Given)
    × (read : Reads)
    × (files : Files)
    × IsPossibleListingChoiceAndClash command read files given
    × ((outcome ≡ effect_outcome (effect_of command.applet) command.applet command given read files)
    ⊎ IsRefusedForPackageSpoiledSinceTested command read given files outcome)

-- the outcome is the refusal of some file that is no sound intent (journal entry); nothing is said of the tree's files
abbrev pub IsPossibleIntentRefusal : Outcome → Type 0
IsPossibleIntentRefusal outcome =
    (file : List ℕ)
    × (cause : Cause)
    × (container_fault_except_contents IntentTable file ≡ Some cause)
    × (outcome ≡ just_refusal no_names (IntentBad cause))

-- the outcome of a command other than `demo` on a tree that is not observable: one after recovery, or the refusal of a
-- bad intent (journal entry)
abbrev pub IsPossibleOutcomeWithoutDemo : CommandLine → Outcome → Type 0
IsPossibleOutcomeWithoutDemo command outcome =
    IsPossibleOutcomeAfterRecovery command outcome
    ⊎ ((does_recover (effect_of command.applet) ≡ true) × IsPossibleIntentRefusal outcome)
