use Rattle.std.proofs.Common.{◌≡◌, false}
use Rattle.std.specs.Prelude.{is_some}
use Rattle.dep_core.specs.Dependency.{Dependency}
use Rattle.search_needs.specs.candidate_core.Options.{IsIn}
use Rattle.search_needs.proofs.candidate_core.WantedVersions.{if_ok_map}
use Rattle.search_choices.specs.Choices.{choices_of, pool_of}
use Rattle.search_needs.specs.search_tables.Excluders.{IsNotExcludedAt}
use Rattle.search_needs.proofs.search_tables.Excluders.{match_none}
use Rattle.search_choices.proofs.choices.Choices.other_excluder.Goals as goal

pub returns-in-Some : goal.returns-in-Some
returns-in-Some c = record {
  found = rw c.in-Some.is at c.in_ok-provided.ensures.found;
  matches = c.in_ok-provided.ensures.matches;
}

pub returns-in-None : goal.returns-in-None
returns-in-None c =
    let free : (p : Dependency) → IsIn p c.args.details.now.provides → p.conflict ≡ false → IsNotExcludedAt (pool_of c.args.self.now) (choices_of c.args.self.now) c.args.details.now p.name (is_some p.version) =
    rw c.in-None.is at c.in_ok-provided.ensures.found in
    record {
      found = if_ok_map _ _ (λ found h. match_none found _ _ _ (λ conflicts. (free, conflicts)) h) c.excluder_by_conflicts.result c.excluder_by_conflicts.ensures.found;
      matches = c.excluder_by_conflicts.ensures.matches;
    }
