use Rattle.std.proofs.Common.{◌≡◌, ◌++◌, ◌-◌, ◌<◌, ◌≤◌, All, ℕ, drop, length, map}
use Rattle.std.specs.Prelude.{Some, slice_get}
use Rattle.pool_core.specs.option_ranks.Ranking.{Ranking}
use Rattle.query_core.specs.Policy.{versions_except_those_repeated_later}
use Rattle.query_core.specs.VersionPlaces.{ListsPlacesOfVersion, VersionPlaces}
use Rattle.query_core.proofs.Grouping.{version_of}
use Rattle.query_core.proofs.version_places.grouped.Given as goal

abbrev pub invariant-loop-start : goal.invariant-loop-start
invariant-loop-start l = record {
  same : l.rankings ≡ l.ordered.rankings.items;
  within : l.start ≤ length l.rankings;
  versions : map (λ (v : VersionPlaces). v.version) l.versions.items ++ versions_except_those_repeated_later (map version_of (drop l.start l.rankings)) ≡ versions_except_those_repeated_later (map version_of l.rankings);
  places : All (ListsPlacesOfVersion l.pool.candidates l.name) l.versions.items;
  apart : (i j : ℕ) (a b : Ranking) → i < l.start → l.start ≤ j → slice_get l.rankings i ≡ Some a → slice_get l.rankings j ≡ Some b → version_of a ≡ version_of b → ⊥;
}

abbrev pub decreases-loop-start : goal.decreases-loop-start
decreases-loop-start l = length l.rankings - l.start
