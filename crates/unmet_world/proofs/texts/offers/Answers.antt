use Rattle.std.proofs.Common.{◌≡◌, ◌∙◌, ◌≤◌, [], List, ℕ, length, map, ap, sym, arith}
use Rattle.std.specs.Prelude.{Some, slice_get}
use Rattle.std.proofs.lemmas.List.{take_all}
use Rattle.search_tables.proofs.candidate_core.Steps.{get_at}
use Rattle.unmet_world.specs.Lines.{offer_text_at, with_text_once, with_texts}
use Rattle.unmet_world.proofs.AddedTexts.{mapped_next}
use Rattle.unmet_world.proofs.texts.offers.Goals as goal

pub loop-id-preserved : goal.loop-id-preserved
loop-id-preserved c =
    let ids : List ℕ = c.args.ids.now in
    let id : ℕ = c.id-item.result in
    let at : slice_get ids c.loop-id.id-index ≡ Some id = get_at ids c.loop-id.id-index id (omega arith) ∙ ap Some (sym c.id-item.is) in
    mapped_next (offer_text_at c.args.sources.now.pool.now c.args.sources.now.listed.now c.args.name.now) ids c.loop-id.id-index id _ _ at c.loop-id.invariant
    (c.in_ok-add_once.ensures ∙ ap (with_text_once c.loop-id.texts.items) c.in_ok-offer_at.ensures)

pub returns : goal.returns
returns c =
    let ids : List ℕ = c.args.ids.now in
    let past : length ids ≤ c.loop-id.id-index = omega arith in
    c.loop-id.invariant ∙ ap (λ (z : List ℕ). with_texts [] (map (offer_text_at c.args.sources.now.pool.now c.args.sources.now.listed.now c.args.name.now) z)) (take_all c.loop-id.id-index ids past)
