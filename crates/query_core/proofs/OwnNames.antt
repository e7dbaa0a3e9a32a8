-- Of the candidates that offer a name, those that have it for their own.
use Rattle.std.proofs.Common.{◌≡◌, ℕ, List, refl, ap, arith}
use Rattle.std.specs.Prelude.{slice_get}
use Rattle.std.specs.List.{filter}
use Rattle.pool_core.proofs.Filtered.{filter_places}
use Rattle.pool_core.specs.candidate_core.Candidates.{offers_name}
use Rattle.pool_core.specs.candidate_core.Options.{places_passing_counted_from, places_offering}
use Rattle.pool_core.specs.candidate_core.Rank.{SelectionProblem, candidate_at_passes}
use Rattle.query_core.specs.Policy.{has_own_name}

pub own_places : (pool : SelectionProblem) (name : List ℕ) → filter (λ k. candidate_at_passes pool (has_own_name name) k) (places_offering name pool.candidates) ≡ places_passing_counted_from 0 (has_own_name name) pool.candidates
own_places pool name =
    filter_places (offers_name name) (has_own_name name) (λ k. slice_get pool.candidates k) 0 pool.candidates
    (λ c h. rw h refl) (λ k. ap (slice_get pool.candidates) (omega arith))
