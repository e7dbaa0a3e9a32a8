-- What a selection of the program means. Serves the contracts of `src/choosing.rt`, which makes a `Selection`, and of
-- the steps that use one; the rules are in `docs/commands.md`, "`add` and `del`", part "What is refused", and
-- "`upgrade` and `fix`".
use Rattle.std.specs.Prelude.{◌≡◌, ℕ, List, Ok, Option, Result}
use Rattle.change_report.specs.change_inputs.Answers.{Agrees}
use Rattle.change_report.specs.change_inputs.Inputs.{Inputs}
use Rattle.change_report.specs.change_inputs.Seen.{inputs_seen}
use Rattle.change_report.specs.change_inputs.declared.root.Refused.{Refused}
use Rattle.change_report.specs.change_outcome.ChangeOutcome.{ChangeWishes}
use Rattle.command_core.specs.Command.{CommandLine}
use Rattle.change_report.specs.db_core.Seen.{packages_of}
use Rattle.change_report.specs.package_changes.Changes.{Replacement}
use Rattle.engine_core.specs.Changed.{InputsAndReplacement, selected_from_inputs_by_choice}
use Rattle.engine_core.specs.Choice.{IsPreferredChoiceOrNoneIfRefused}
use Rattle.engine_core.specs.Selecting.{pool_of_inputs_unless_too_many_candidates, replacement_of_choice}
use Rattle.engine_core.specs.Wishes.{wishes_of}
use Rattle.engine_core.specs.declared.choosing.Selection.{Selection}

-- what was read of the root for a selection
abbrev pub inputs_of_selection : Selection → Inputs
inputs_of_selection s = inputs_seen s.loaded.now

-- the replacement of the packages before by the chosen candidates
abbrev pub replacement_seen : Selection → Replacement
replacement_seen s =
    replacement_of_choice s.again (inputs_of_selection s) s.pool s.trace

-- what contracts see in a selection: what was read of the root, and the replacement
abbrev pub selection_seen : Selection → InputsAndReplacement
selection_seen s =
    record { inputs = inputs_of_selection s; replacement = replacement_seen s }

-- the database of a selection is the one of its inputs
abbrev pub HasDatabaseOfInputs : Selection → Type 0
HasDatabaseOfInputs s = packages_of s.db ≡ (inputs_of_selection s).root.database.packages

-- the candidates of a selection are those of its command and inputs
abbrev pub HasPoolOfInputs : Selection → Type 0
HasPoolOfInputs s =
    pool_of_inputs_unless_too_many_candidates s.command.now (inputs_of_selection s) ≡ Ok s.pool

-- what the command of a selection asks for besides its world
abbrev pub wishes_of_selection : Selection → ChangeWishes
wishes_of_selection s = wishes_of s.command.now

-- ---- a choice is made

-- the result is what a command selects by the one choice among its candidates, or its refusal
abbrev pub IsSelectedFrom : CommandLine → Inputs → Result Selection Refused → Type 0
IsSelectedFrom command inputs result =
    (chosen : Option (List ℕ))
    × IsPreferredChoiceOrNoneIfRefused (pool_of_inputs_unless_too_many_candidates command inputs) chosen
    × Agrees selection_seen result (selected_from_inputs_by_choice command chosen inputs)

-- a selection has this command, these inputs, their database, and the command's candidates
pub record IsSelectionFor (command : CommandLine) (inputs : Inputs) (s : Selection) : Type 0 where
  -- the selection is made for this command
  pub command_is : s.command.now ≡ command
  -- the selection is made of these inputs
  pub inputs_are : inputs_of_selection s ≡ inputs
  -- its opened database has the packages of the inputs
  pub database : HasDatabaseOfInputs s
  -- its candidates are those of the inputs
  pub pool : HasPoolOfInputs s
