use Rattle.std.proofs.Common.{◌∙◌, List, ℕ, ap}
use Rattle.std.specs.List.{filter}
use Rattle.option_ranks.specs.candidate_core.Options.{is_eligible_for_need, places_offering}
use Rattle.option_ranks.specs.candidate_core.Rank.{candidate_at_passes}
use Rattle.option_ranks.specs.candidate_core.Values.{need_of_ref}
use Rattle.pool_core.proofs.Filtered.{fitting_places}
use Rattle.pool_core.proofs.sealed.Sealed.fitting.Goals as goal

pub returns-clause-places : goal.returns-clause-places
returns-clause-places c =
    let pool = c.args.self.now in
    let need = need_of_ref c.args.need.now in
    c.in_ok-ids.ensures.places ∙ (ap (filter (λ (k : ℕ). candidate_at_passes pool (is_eligible_for_need pool need) k)) (c.offers-places.ensures ∙ ap (λ (name : List ℕ). places_offering name pool.candidates) c.name.ensures) ∙ fitting_places pool need)
