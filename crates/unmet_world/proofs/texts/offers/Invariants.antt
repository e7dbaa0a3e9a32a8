-- The texts of the candidates so far.
use Rattle.std.proofs.Common.{◌≡◌, [], map, take}
use Rattle.unmet_world.specs.Lines.{offer_text_at, with_texts}
use Rattle.unmet_world.proofs.texts.offers.Given as goal

abbrev pub invariant-loop-id : goal.invariant-loop-id
invariant-loop-id l = l.texts.items ≡ with_texts [] (map (offer_text_at l.sources.pool.now l.sources.listed.now l.name) (take l.id-index l.ids))
