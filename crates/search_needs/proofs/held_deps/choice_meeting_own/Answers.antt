use Rattle.std.proofs.Common.{ℕ, List, sym, subst}
use Rattle.dep_core.specs.Meets.{dependency}
use Rattle.search_tables.specs.candidate_core.Candidates.{entry}
use Rattle.search_tables.specs.candidate_core.Options.{IsIn}
use Rattle.search_tables.proofs.candidate_core.WantedVersions.{if_ok_map}
use Rattle.search_tables.proofs.Excluders.{match_none}
use Rattle.search_needs.proofs.Offered.{unmet_among_all, unmet_among_offers}
use Rattle.search_needs.proofs.held_deps.choice_meeting_own.Goals as goal

pub returns-then-as_slice-offers-clause-found : goal.returns-then-as_slice-offers-clause-found
returns-then-as_slice-offers-clause-found c =
    if_ok_map _ _ (λ found h. match_none found _ _ _ (λ none. unmet_among_all c.args.pool.now c.args.choices.now (entry (dependency c.args.held.now.dep.now))
    (λ k there. none k (subst (λ (z : List ℕ). IsIn k z) (sym c.as_slice-then-as_slice-offers.ensures) there) there)) h)
    c.choice_among.result c.choice_among.ensures.found

pub returns-clause-found : goal.returns-clause-found
returns-clause-found c =
    if_ok_map _ _ (λ found h. match_none found _ _ _ (λ none. unmet_among_offers c.args.pool.now c.args.choices.now (entry (dependency c.args.held.now.dep.now))
    (λ k offered there. none k (subst (λ (z : List ℕ). IsIn k z) (sym c.offers-offers.ensures) offered) there)) h)
    c.choice_among-2.result c.choice_among-2.ensures.found
