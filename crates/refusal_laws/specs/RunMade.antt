-- Which packages there are after a run that is not refused. The rules are in `docs/selection.md`,
-- "Which selection is taken", and in `docs/commands.md`, "What a change does with files".
use Rattle.std.specs.Prelude.{◌≡◌, ℕ, List, Some, Ok}
use Rattle.base_core.specs.Files.{Files}
use Rattle.outcome.specs.change_outcome.ChangeOutcome.{members_after_change, packages_before_and_after_with_purge}
use Rattle.outcome.specs.change_outcome.MembersAfter.{MemberFound}
use Rattle.command_core.specs.Command.{CommandLine}
use Rattle.outcome.specs.engine_core.Changed.{InputsAndReplacement, selected_from_reads_by_choice}
use Rattle.outcome.specs.engine_core.Selecting.{pool_of_command}
use Rattle.outcome.specs.engine_core.Wishes.{wishes_of}
use Rattle.outcome.specs.Commands.{reads_in}
use Rattle.outcome.specs.package_changes.Placed.{candidates_at}
use Rattle.outcome.specs.candidate_core.Rank.{SelectionProblem}
use Rattle.outcome.specs.search_tables.Selection.{IsFirstPreferredSelection}
use Rattle.refusal_laws.specs.PackagesAfter.{AreSelectedMembers}
use Rattle.refusal_laws.specs.TestsPassed.{PassesChangeTestsExceptLimits}

-- a run has taken the first preferred selection: there is one, the packages after the change are exactly the selected
-- ones, and the files that they leave have no fault
pub record InstallsFirstSelectionFaultlessExceptLimits (command : CommandLine)
    (files : Files) : Type 0 where
  -- the candidates of the command, under its new world
  pub pool : SelectionProblem
  pub is_pool : pool_of_command command (reads_in files) ≡ Ok pool
  -- the places of the candidates of the first preferred selection
  pub trace : List ℕ
  pub first : IsFirstPreferredSelection pool trace
  -- the inputs that are read, and the packages before the change with the candidates of this selection
  pub selected : InputsAndReplacement
  pub selects : selected_from_reads_by_choice command (reads_in files) (Some trace) ≡ Ok selected
  -- the selected candidates are those at the places of the trace
  pub candidates : selected.replacement.selected ≡ candidates_at pool trace
  -- the packages after the change
  pub found : List MemberFound
  pub members :
      members_after_change selected.inputs selected.replacement (wishes_of command) (reads_in files)
      ≡ Ok found
  -- the packages after the change are the selected ones
  pub are_selected :
      AreSelectedMembers selected.inputs selected.replacement (reads_in files) found
  -- the files that they leave pass all tests, except those of the writer's limits
  pub no_fault :
      PassesChangeTestsExceptLimits (wishes_of command)
      (packages_before_and_after_with_purge selected.inputs (wishes_of command) found)
      files
