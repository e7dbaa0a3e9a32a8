use Rattle.std.proofs.Common.{◌≡◌, ℕ, take}
use Rattle.std.specs.List.{filter}
use Rattle.pool_core.specs.candidate_core.Rank.{candidate_at_passes}
use Rattle.query_core.specs.Policy.{has_own_name}
use Rattle.query_core.proofs.version_places.named_among.Given as goal

abbrev pub invariant-loop-place : goal.invariant-loop-place
invariant-loop-place l = l.places.items ≡ filter (λ (k : ℕ). candidate_at_passes l.pool (has_own_name l.name) k) (take l.place-index l.offers)
