-- The pool of a command.
use Rattle.std.proofs.Common.{◌≡◌, Bool, true, false, Ok, Err, sym, ap}
use Rattle.std.specs.Prelude.{if◌then◌else◌}
use Rattle.change_report.specs.change_inputs.Candidates.{candidates_of, root_pool}
use Rattle.change_report.specs.change_inputs.Inputs.{Inputs}
use Rattle.command_core.specs.Command.{CommandLine}
use Rattle.change_report.specs.candidate_core.Rank.{SelectionProblem, UpgradedNames, selection_problem_from_parts}
use Rattle.report_core.specs.declared.refusal.Refusal.{Refusal}
use Rattle.engine_core.specs.Selecting.{pool_of_inputs_unless_too_many_candidates}
use Rattle.engine_core.specs.Wishes.{names_to_upgrade}

-- the pool's world is the one that the command asks for
pub pool_world : (command : CommandLine) (inputs : Inputs) (pool : SelectionProblem) → pool_of_inputs_unless_too_many_candidates command inputs ≡ Ok pool → pool.world ≡ inputs.root.new_world
unfolding root_pool
pool_world command inputs pool is = by_size (names_to_upgrade command.applet command.operands) _ _ is
  where
    by_size : (upgraded : UpgradedNames) (b : Bool) (refusal : Refusal) → (if b then Err refusal else Ok (selection_problem_from_parts (candidates_of inputs) inputs.root.new_world upgraded)) ≡ Ok pool → pool.world ≡ inputs.root.new_world
    by_size upgraded true refusal is = cc
    by_size upgraded false refusal is = let same : selection_problem_from_parts (candidates_of inputs) inputs.root.new_world upgraded ≡ pool = cc in ap (λ (p : SelectionProblem). p.world) (sym same)
