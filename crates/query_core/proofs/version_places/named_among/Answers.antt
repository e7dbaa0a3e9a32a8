use Rattle.std.proofs.Common.{◌≡◌, ◌∙◌, ◌≤◌, ◌++◌, ◌∷◌, [], Bool, List, ℕ, length, ap, sym, arith}
use Rattle.std.specs.Prelude.{Some, if◌then◌else◌, slice_get}
use Rattle.std.specs.List.{filter}
use Rattle.std.proofs.lemmas.List.{take_all}
use Rattle.pool_core.specs.candidate_core.Rank.{candidate_at_passes}
use Rattle.pool_core.proofs.candidate_core.Steps.{filter_step, get_at}
use Rattle.query_core.specs.Policy.{has_own_name}
use Rattle.query_core.proofs.version_places.named_among.Goals as goal

pub loop-place-preserved : goal.loop-place-preserved
loop-place-preserved c =
    let test : ℕ → Bool = λ (k : ℕ). candidate_at_passes c.args.pool.now (has_own_name c.args.name.now) k in
    let offers : List ℕ = c.args.offers.now in
    let id : ℕ = c.place-item.result in
    let at : slice_get offers c.loop-place.place-index ≡ Some id = get_at offers c.loop-place.place-index id (omega arith) ∙ ap Some (sym c.place-item.is) in
    filter_step test offers c.loop-place.place-index id c.loop-place.places.items c.push_if.new.places.items at c.loop-place.invariant
    (c.in_ok-push_if.ensures ∙ ap (λ (t : Bool). c.loop-place.places.items ++ (if t then id ∷ [] else [])) c.is_named_at-is_named.ensures)

pub returns : goal.returns
returns c =
    let test : ℕ → Bool = λ (k : ℕ). candidate_at_passes c.args.pool.now (has_own_name c.args.name.now) k in
    let past : length c.args.offers.now ≤ c.loop-place.place-index = omega arith in
    c.loop-place.invariant ∙ ap (filter test) (take_all c.loop-place.place-index c.args.offers.now past)
