-- No conflict so far is met, and what is kept of versions is right.
use Rattle.std.proofs.Common.{◌≡◌, ℕ, map, take}
use Rattle.std.specs.Prelude.{None, Some, find, slice_get}
use Rattle.dep_core.specs.Dependency.{Dependency}
use Rattle.pool_core.specs.candidate_core.Candidates.{Candidate, meets_dependency}
use Rattle.pool_core.specs.candidate_core.PackageMatches.{AreMatchesAmong}
use Rattle.pool_core.specs.candidate_core.Packages.{candidates_of_packages}
use Rattle.search_tables.specs.Conflicts.{conflict_without_index}
use Rattle.search_tables.proofs.conflicts.Conflicts.choice_against.Given as goal

abbrev pub invariant-loop-listed : goal.invariant-loop-listed
invariant-loop-listed l = record {
  matches : AreMatchesAmong (candidates_of_packages l.initial.matches.packages.now) l.matches;
  none : (details : Candidate) → slice_get (candidates_of_packages l.initial.matches.packages.now) l.id ≡ Some details
      → find (λ (c : ℕ × Dependency). meets_dependency c.1 details) (map conflict_without_index (take l.listed-index l.listed-items)) ≡ None;
}
