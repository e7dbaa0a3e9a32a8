-- None so far is a choice that meets the dependency, and what is kept of versions is right.
use Rattle.std.proofs.Common.{◌≡◌, ℕ, take, false}
use Rattle.dep_core.specs.Meets.{dependency}
use Rattle.search_tables.specs.candidate_core.Candidates.{entry}
use Rattle.search_tables.specs.candidate_core.Options.{IsIn}
use Rattle.search_tables.specs.candidate_core.PackageMatches.{AreMatchesAmong}
use Rattle.search_tables.specs.candidate_core.Rank.{meets_at}
use Rattle.search_needs.proofs.held_deps.choice_among.Given as goal

abbrev pub invariant-loop-id : goal.invariant-loop-id
invariant-loop-id l = record {
  none : (k : ℕ) → IsIn k (take l.id-index l.ids) → IsIn k l.choices → meets_at l.pool k (entry (dependency l.held.dep.now)) ≡ false;
  matches : AreMatchesAmong l.pool.candidates l.matches;
}
