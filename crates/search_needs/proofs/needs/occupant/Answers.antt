use Rattle.std.proofs.Common.{ℕ, List, sym, subst}
use Rattle.search_tables.specs.candidate_core.Options.{IsIn}
use Rattle.search_tables.proofs.Excluders.{match_none}
use Rattle.search_needs.proofs.Offered.{occupied_among_offers}
use Rattle.search_needs.proofs.needs.occupant.Goals as goal

pub returns : goal.returns
returns c =
    match_none c.occupant_among-2.result _ _ _ (λ none. occupied_among_offers c.args.pool.now c.args.choices.now c.args.name.now
    (λ k h there. none k (subst (λ (z : List ℕ). IsIn k z) (sym c.offers-offers.ensures) h) there))
    c.occupant_among-2.ensures
