-- How a command that changes what is installed ends. It is refused for a stated fault, or because no
-- selection satisfies the new world; otherwise the first preferred selection (the preferred solution)
-- replaces the packages before. Reports and refusals are in `docs/commands.md`, "`add` and `del`"; the
-- solution is defined in `docs/selection.md`, "Which selection is taken".
use Rattle.std.specs.Prelude.{◌≡◌, ◌⊎◌, ◌++◌, ℕ, Bool, true, false, List, Option, Some, Result, Ok, Err}
use Rattle.base_core.specs.Files.{Files}
use Rattle.base_core.specs.declared.cause.Cause.{Cause}
use Rattle.engine_core.specs.change_outcome.ChangeOutcome.{ChangeDone}
use Rattle.command_core.specs.Command.{CommandLine}
use Rattle.engine_core.specs.Changed.{IsFirstClashOfCommand, InputsAndReplacement, change_of_selected, selected_from_reads_by_choice}
use Rattle.engine_core.specs.Selecting.{pool_of_command}
use Rattle.engine_core.specs.package_changes.Changes.{changes_of}
use Rattle.engine_core.specs.package_changes.Placed.{candidates_at}
use Rattle.tell_core.specs.path_clashes.Clash.{NamePair}
use Rattle.tell_core.specs.candidate_core.Rank.{SelectionProblem}
use Rattle.report_core.specs.Reports.{change_lines}
use Rattle.report_core.specs.declared.refusal.Refusal.{Refusal}
use Rattle.report_core.specs.declared.refusal.Refusal.TheVariants.{DatabaseBad, IndexBad, IndexMissing, IntentBad, NoDatabase, NotInstalled, Owned, PackageBad, PackageDiffers, PackageMissing, PathClash, RepositoriesBad, Reserved, ResultTooLarge, ScriptNeeded, TooMany, TriggerNeeded, Unsatisfied, Untrusted, WorldBad}
use Rattle.engine_core.specs.search_tables.Selection.{IsFirstPreferredSelection, IsSatisfying}
use Rattle.outcome.specs.Changing.{change_outcome}
use Rattle.outcome.specs.Commands.{reads_in}
use Rattle.outcome.specs.Effect.{Changes}
use Rattle.outcome.specs.Outcome.{Outcome, just_refusal}
use Rattle.outcome.specs.Work.{recovery_fault, files_recovered_if_needed}

-- ---- stated faults

-- whether a refusal is for a fault of the input: of the files that are read of the root, of too many candidates, or of
-- an operand whose package is not installed
abbrev pub is_input_refusal : Refusal → Bool
-- a fault of the files of the root
is_input_refusal NoDatabase = true
is_input_refusal (DatabaseBad cause) = true
is_input_refusal (WorldBad line) = true
is_input_refusal (RepositoriesBad line) = true
is_input_refusal Untrusted = true
is_input_refusal (IndexMissing repository) = true
is_input_refusal (IndexBad repository cause) = true
-- too many candidates
is_input_refusal (TooMany count) = true
-- an operand that is refused as not installed
is_input_refusal (NotInstalled place) = true
-- a text database with more data than a container may have
is_input_refusal (ResultTooLarge bytes values) = true
is_input_refusal other = false

-- whether a refusal is for a fault of the packages, once candidates are chosen: of their files, scripts and triggers,
-- and of the files that they would leave
abbrev pub is_refusal_after_choice : Refusal → Bool
-- a fault of the file of an added package
is_refusal_after_choice (PackageMissing name version) = true
is_refusal_after_choice (PackageBad name version cause) = true
is_refusal_after_choice (PackageDiffers name version field wanted found) = true
-- a script that would have to run
is_refusal_after_choice (ScriptNeeded name script) = true
-- a fault of the paths of the change
is_refusal_after_choice (Reserved path) = true
is_refusal_after_choice (PathClash path other) = true
is_refusal_after_choice (Owned path first second) = true
-- a trigger that is due
is_refusal_after_choice (TriggerNeeded name) = true
-- a new database or intent that exceeds a limit
is_refusal_after_choice (ResultTooLarge bytes values) = true
is_refusal_after_choice other = false

-- ---- without a selection

-- a command is refused for its input, whichever candidates might be chosen
pub record IsRefusedWhicheverCandidatesAreChosen (command : CommandLine) (files : Files)
    (o : Outcome) : Type 0 where
  -- the refusal
  pub refusal : Refusal
  -- the refusal is one of those for the input
  pub stated : is_input_refusal refusal ≡ true
  -- the input is refused whichever candidates are chosen
  pub unchosen : (chosen : Option (List ℕ))
      → selected_from_reads_by_choice command (reads_in files) chosen ≡ Err refusal
  -- the outcome is this refusal, and the files are unchanged
  pub outcome : o ≡ just_refusal files refusal

-- no selection of the candidates satisfies the new world, and exactly this is reported
pub record IsRefusedAsUnsatisfiable (command : CommandLine) (files : Files) (o : Outcome) : Type 0 where
  -- the candidates of the command, under its new world
  pub pool : SelectionProblem
  -- the command has these candidates
  pub is_pool : pool_of_command command (reads_in files) ≡ Ok pool
  -- no selection of them satisfies the new world
  pub none : (selection : List ℕ) → IsSatisfying pool selection → ⊥
  -- the outcome is the refusal *Unsatisfied*, and the files are unchanged
  pub outcome : o ≡ just_refusal files Unsatisfied

-- ---- with the preferred selection

-- A change with the result `done` is made, or only simulated, and reported. Its report begins with a line for each
-- package that changes. A simulated change leaves the files unchanged, and commits nothing.
pub record IsChangeDoneAndReported (command : CommandLine) (files : Files) (selected : InputsAndReplacement)
    (done : ChangeDone) (o : Outcome) : Type 0 where
  -- the outcome is that of this change
  pub outcome : o ≡ change_outcome files (Ok done)
  -- the bytes of the report after the lines for packages that change
  pub rest : List ℕ
  -- the report: a line for each package that changes, and then the rest
  pub report : o.out ≡ change_lines (changes_of selected.replacement) ++ rest
  -- a simulated change leaves the files unchanged, and commits nothing
  pub simulated : command.flags.simulate ≡ true → (o.files ≡ files) × (o.commits ≡ false)

-- how a change ends once its candidates are selected: it is made (or simulated) and reported, or refused for a
-- fault of its packages (*is_refusal_after_choice*)
abbrev pub IsEndOfSelectedChange :
    CommandLine → Files → InputsAndReplacement → Result ChangeDone Refusal → Outcome → Type 0
IsEndOfSelectedChange command files selected (Ok done) o =
    IsChangeDoneAndReported command files selected done o
IsEndOfSelectedChange command files selected (Err refusal) o =
    (is_refusal_after_choice refusal ≡ true) × (o ≡ just_refusal files refusal)

-- the preferred selection (`trace`, places of candidates) replaces the packages before, and the change
-- ends with this selection: made (or simulated), or refused
pub record TakesFirstPreferredSelection (command : CommandLine) (files : Files) (o : Outcome) : Type 0 where
  -- the candidates of the command
  pub pool : SelectionProblem
  -- the command has these candidates, under its new world
  pub is_pool : pool_of_command command (reads_in files) ≡ Ok pool
  -- the places of the chosen candidates, in the order chosen
  pub trace : List ℕ
  -- the trace is the preferred selection of them
  pub first : IsFirstPreferredSelection pool trace
  -- what was read of the root, and the packages before with the candidates that replace them
  pub selected : InputsAndReplacement
  -- the command takes this selection
  pub selects : selected_from_reads_by_choice command (reads_in files) (Some trace) ≡ Ok selected
  -- the selected candidates are those of the trace
  pub candidates : selected.replacement.selected ≡ candidates_at pool trace
  -- two names of which one would be a folder of the other after the change; None if there are none
  pub clash : Option NamePair
  -- `clash` is the first such clash of the change
  pub is_clash : IsFirstClashOfCommand command (reads_in files) files (Some trace) clash
  -- the change of these candidates ends with the outcome `o`
  pub end : IsEndOfSelectedChange command files selected
      (change_of_selected command (reads_in files) files clash selected) o

-- ---- each end

-- each end of a change over the recovered files: it is refused for its input, no selection satisfies the
-- new world, or the preferred selection is taken
abbrev pub IsChangeEnd : CommandLine → Files → Outcome → Type 0
IsChangeEnd command files o =
    IsRefusedWhicheverCandidatesAreChosen command files o
    ⊎ (IsRefusedAsUnsatisfiable command files o ⊎ TakesFirstPreferredSelection command files o)

-- a run refuses a bad intent (journal entry) before all else; `files` are those at its start
pub record IsIntentRefused (files : Files) (o : Outcome) : Type 0 where
  -- the first test that the intent fails
  pub cause : Cause
  -- recovery fails with this cause
  pub bad : recovery_fault Changes files ≡ Some cause
  -- the outcome is the refusal with this cause, and the files are unchanged
  pub outcome : o ≡ just_refusal files (IntentBad cause)

-- each end of a change that recovers first: a bad intent (journal entry) is refused, or the change ends over the files
-- that recovery leaves
abbrev pub IsChangeEndAfterRecoveryOrIntentRefusal : CommandLine → Files → Outcome → Type 0
IsChangeEndAfterRecoveryOrIntentRefusal command files o =
    IsIntentRefused files o ⊎ IsChangeEnd command (files_recovered_if_needed Changes files) o
