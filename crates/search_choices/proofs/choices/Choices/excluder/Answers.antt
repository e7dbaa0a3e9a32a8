use Rattle.std.proofs.Common.{ℕ, List, true, subst}
use Rattle.search_needs.specs.candidate_core.Candidates.{Candidate}
use Rattle.search_needs.proofs.candidate_core.WantedVersions.{if_ok_map}
use Rattle.search_choices.specs.Choices.{choices_of, pool_of}
use Rattle.search_needs.specs.search_tables.Excluders.{IsNotExcludedAt}
use Rattle.search_needs.proofs.search_tables.Excluders.{match_none, no_excluder}
use Rattle.search_choices.proofs.choices.Choices.excluder.Goals as goal

pub returns-in-Some-clause-found : goal.returns-in-Some-clause-found
returns-in-Some-clause-found c = rw c.in-Some.is at c.in_ok-by_name.ensures.found

pub returns-in-None-clause-found : goal.returns-in-None-clause-found
returns-in-None-clause-found c =
    let pool = pool_of c.args.self.now in
    let t : List ℕ = choices_of c.args.self.now in
    let details : Candidate = c.details-details.result in
    let own : IsNotExcludedAt pool t details c.name.result.now true = rw c.in-None.is at c.in_ok-by_name.ensures.found in
    if_ok_map _ _ (λ found h. match_none found _ _ _ (λ rest. no_excluder pool t c.args.id details c.details-details.ensures
    (subst (λ (n : List ℕ). IsNotExcludedAt pool t details n true) c.name.ensures own) rest.0 rest.1) h)
    c.other_excluder.result c.other_excluder.ensures.found
