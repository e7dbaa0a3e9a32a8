use Rattle.std.proofs.Common.{ℕ, List, sym, subst}
use Rattle.search_tables.specs.candidate_core.Options.{IsIn}
use Rattle.search_tables.specs.candidate_core.Values.{need_of_ref}
use Rattle.search_tables.proofs.Excluders.{match_none}
use Rattle.search_needs.proofs.Offered.{unmet_among_all, unmet_among_offers}
use Rattle.search_needs.proofs.needs.choice_meeting.Goals as goal

pub returns-then-as_slice-offers : goal.returns-then-as_slice-offers
returns-then-as_slice-offers c =
    match_none c.choice_among.result _ _ _ (λ none. unmet_among_all c.args.pool.now c.args.choices.now (need_of_ref c.args.need.now)
    (λ k h. none k (subst (λ (z : List ℕ). IsIn k z) (sym c.as_slice-then-as_slice-offers.ensures) h) h))
    c.choice_among.ensures

pub returns : goal.returns
returns c =
    match_none c.choice_among-2.result _ _ _ (λ none. unmet_among_offers c.args.pool.now c.args.choices.now (need_of_ref c.args.need.now)
    (λ k h there. none k (subst (λ (z : List ℕ). IsIn k z) (sym c.offers_for-offers.ensures) h) there))
    c.choice_among-2.ensures
