-- The world of a pool that is made of what was read of a root.
use Rattle.std.proofs.Common.{◌≡◌, Bool, true, false, Ok, Err, sym, ap}
use Rattle.std.specs.Prelude.{if◌then◌else◌}
use Rattle.search_tables.specs.candidate_core.Rank.{SelectionProblem, no_names, selection_problem_from_parts}
use Rattle.change_inputs.specs.Candidates.{candidates_of, root_pool}
use Rattle.change_inputs.specs.Inputs.{Inputs}
use Rattle.report_core.specs.declared.refusal.Refusal.{Refusal}

pub pool_world : (inputs : Inputs) (pool : SelectionProblem) → root_pool inputs no_names ≡ Ok pool → pool.world ≡ inputs.root.new_world
unfolding root_pool
pool_world inputs pool is = by_size _ _ is
  where
    by_size : (b : Bool) (refusal : Refusal) → (if b then Err refusal else Ok (selection_problem_from_parts (candidates_of inputs) inputs.root.new_world no_names)) ≡ Ok pool → pool.world ≡ inputs.root.new_world
    by_size true refusal is = cc
    by_size false refusal is = let same : selection_problem_from_parts (candidates_of inputs) inputs.root.new_world no_names ≡ pool = cc in ap (λ (p : SelectionProblem). p.world) (sym same)
