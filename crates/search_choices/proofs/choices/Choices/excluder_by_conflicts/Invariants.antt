-- No choice meets a conflict so far, and what is kept of versions is right.
use Rattle.std.proofs.Common.{◌≡◌, false, true, take}
use Rattle.dep_core.specs.Dependency.{Dependency}
use Rattle.search_needs.specs.candidate_core.Candidates.{entry}
use Rattle.search_needs.specs.candidate_core.Options.{IsIn}
use Rattle.search_needs.specs.candidate_core.PackageMatches.{AreMatchesAmong}
use Rattle.search_choices.specs.Choices.{choices_of, pool_of}
use Rattle.search_needs.specs.search_tables.Selection.{is_met}
use Rattle.search_choices.proofs.choices.Choices.excluder_by_conflicts.Given as goal

abbrev pub invariant-loop-i : goal.invariant-loop-i
invariant-loop-i l = record {
  unmet : (d : Dependency) → IsIn d (take l.i l.depends) → d.conflict ≡ true → is_met (pool_of l.self) (choices_of l.self) (entry d) ≡ false;
  matches : AreMatchesAmong (pool_of l.self).candidates l.matches;
}
