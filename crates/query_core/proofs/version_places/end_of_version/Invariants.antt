use Rattle.std.proofs.Common.{◌≡◌, ◌<◌, ◌≤◌, ℕ, true}
use Rattle.std.specs.Prelude.{Some, slice_get}
use Rattle.pool_core.specs.option_ranks.Ranking.{Ranking}
use Rattle.query_core.specs.QueryRanking.{have_same_version}
use Rattle.query_core.proofs.version_places.end_of_version.Given as goal

abbrev pub invariant-loop-end : goal.invariant-loop-end
invariant-loop-end l = (i : ℕ) (a b : Ranking) → l.start ≤ i → i < l.end → slice_get l.rankings l.start ≡ Some a → slice_get l.rankings i ≡ Some b → have_same_version l.key a b ≡ true
