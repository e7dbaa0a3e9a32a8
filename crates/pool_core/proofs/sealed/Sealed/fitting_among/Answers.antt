use Rattle.std.proofs.Common.{◌≡◌, ◌∙◌, ◌≤◌, ◌++◌, ◌∷◌, [], Bool, List, ℕ, length, ap, sym, arith, rules}
use Rattle.std.specs.Prelude.{Some, if◌then◌else◌, slice_get}
use Rattle.std.specs.List.{filter}
use Rattle.std.proofs.lemmas.List.{take_all}
use Rattle.option_ranks.specs.candidate_core.Options.{is_eligible_for_need}
use Rattle.option_ranks.specs.candidate_core.Rank.{candidate_at_passes}
use Rattle.option_ranks.specs.candidate_core.Values.{need_of_ref}
use Rattle.option_ranks.proofs.candidate_core.Steps.{filter_step, get_at}
use Rattle.pool_core.proofs.sealed.Sealed.fitting_among.Goals as goal

pub loop-id-init : goal.loop-id-init
loop-id-init c = record {
  ids = search rules;
  known = c.requires.known;
}

pub loop-id-preserved : goal.loop-id-preserved
loop-id-preserved c =
    let fits : ℕ → Bool = λ (k : ℕ). candidate_at_passes c.args.self.now (is_eligible_for_need c.args.self.now (need_of_ref c.args.need.now)) k in
    let places : List ℕ = c.args.places.now in
    let id : ℕ = c.id-item.result in
    let at : slice_get places c.loop-id.id-index ≡ Some id = get_at places c.loop-id.id-index id (omega arith) ∙ ap Some (sym c.id-item.is) in
    record {
      ids = filter_step fits places c.loop-id.id-index id c.loop-id.ids.items c.push_if_fitting.new.ids.items at c.loop-id.invariant.ids
          (c.in_ok-push_if_fitting.ensures ∙ ap (λ (t : Bool). c.loop-id.ids.items ++ (if t then id ∷ [] else [])) c.in_ok-fits.ensures.fits);
      known = c.in_ok-fits.ensures.known;
    }

pub returns-clause-places : goal.returns-clause-places
returns-clause-places c =
    let fits : ℕ → Bool = λ (k : ℕ). candidate_at_passes c.args.self.now (is_eligible_for_need c.args.self.now (need_of_ref c.args.need.now)) k in
    let past : length c.args.places.now ≤ c.loop-id.id-index = omega arith in
    c.loop-id.invariant.ids ∙ ap (filter fits) (take_all c.loop-id.id-index c.args.places.now past)
