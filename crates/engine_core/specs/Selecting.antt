-- The candidates of a command, and the effect of a choice among them. The rules are in
-- `docs/selection.md`, "What there is to choose from".
use Rattle.std.specs.Prelude.{ℕ, List, Result}
use Rattle.change_report.specs.change_inputs.Candidates.{root_pool}
use Rattle.change_report.specs.change_inputs.Chains.{and_then}
use Rattle.change_report.specs.change_inputs.Inputs.{Inputs, inputs_of}
use Rattle.command_core.specs.Command.{CommandLine}
use Rattle.change_report.specs.make_info.Reads.{Reads}
use Rattle.change_report.specs.package_changes.Changes.{Replacement}
use Rattle.change_report.specs.package_changes.Placed.{candidates_at}
use Rattle.change_report.specs.candidate_core.Rank.{SelectionProblem}
use Rattle.report_core.specs.declared.refusal.Refusal.{Refusal}
use Rattle.engine_core.specs.Wishes.{names_to_upgrade}

-- the candidates that a command may choose from, by its inputs: under the new world and the names
-- that the command upgrades
abbrev pub pool_of_inputs_unless_too_many_candidates : CommandLine → Inputs
    → Result SelectionProblem Refusal
pool_of_inputs_unless_too_many_candidates command inputs =
    root_pool inputs (names_to_upgrade command.applet command.operands)

-- the candidates that a command may choose from, by what reads find
abbrev pub pool_of_command : CommandLine → Reads → Result SelectionProblem Refusal
pool_of_command command read =
    and_then (inputs_of command read) (pool_of_inputs_unless_too_many_candidates command)

-- the effect of a choice on the packages before: the chosen candidates replace them, and some names are
-- reinstalled
abbrev pub replacement_of_choice : List (List ℕ) → Inputs → SelectionProblem → List ℕ → Replacement
replacement_of_choice again inputs pool trace = record {
  before = inputs.root.database.packages;
  selected = candidates_at pool trace;
  again = again;
}
