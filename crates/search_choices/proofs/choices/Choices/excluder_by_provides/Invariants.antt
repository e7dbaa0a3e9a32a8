-- No choice excludes the candidate at an entry so far, and what is kept of versions is right.
use Rattle.std.proofs.Common.{◌≡◌, false, take}
use Rattle.std.specs.Prelude.{is_some}
use Rattle.dep_core.specs.Dependency.{Dependency}
use Rattle.search_needs.specs.candidate_core.Options.{IsIn}
use Rattle.search_needs.specs.candidate_core.PackageMatches.{AreMatchesAmong}
use Rattle.search_choices.specs.Choices.{choices_of, pool_of}
use Rattle.search_needs.specs.search_tables.Excluders.{IsNotExcludedAt}
use Rattle.search_choices.proofs.choices.Choices.excluder_by_provides.Given as goal

abbrev pub invariant-loop-i : goal.invariant-loop-i
invariant-loop-i l = record {
  free : (p : Dependency) → IsIn p (take l.i l.provides) → p.conflict ≡ false → IsNotExcludedAt (pool_of l.self) (choices_of l.self) l.details p.name (is_some p.version);
  matches : AreMatchesAmong (pool_of l.self).candidates l.matches;
}
