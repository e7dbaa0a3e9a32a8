use Rattle.std.proofs.Common.{length, sym, ◌∙◌, ap, rules, arith}
use Rattle.std.specs.Prelude.{◌==◌}
use Rattle.std.specs.List.{slice_split}
use Rattle.std.specs.Slice.Iter.{split_rest, split_done, split_callee}
use Rattle.std.proofs.lemmas.Iterator.Splits.{YieldsList-from_slice_split}
use Rattle.std.proofs.lemmas.Iterator.Consumers.{YieldsList-turn, YieldsList-end}
use Rattle.std.proofs.lemmas.List.{length_push}
use Rattle.make_info.proofs.Saying.{no_text, no_texts_left, one_text, part_some, part_none}
use Rattle.make_info.proofs.information.Items.add_texts.Goals as goal

pub loop-part-preserved-in-Continue-1 : goal.loop-part-preserved-in-Continue-1
loop-part-preserved-in-Continue-1 c =
    let again = c.into_iter-part-iterator.ensures.into_iter_gives in
    let t = YieldsList-turn (YieldsList-from_slice_split _ (λ b. b == 32) c.args.texts.now (ap split_rest again ∙ c.split-part-items.ensures.rest) (ap split_done again ∙ c.split-part-items.ensures.done) (ap split_callee again ∙ c.split-part-items.ensures.closure) (λ x b q k. search rules)) c.loop-part.yielded _ c.loop-part.yielded_by _ _ c.in-Some.part c.in-Some.is c.next.ensures.steps in
    one_text c.loop-part.self c.push.new.self c.args.field (slice_split (λ b. b == 32) c.args.texts.now) (length c.loop-part.yielded) _ c.in-Some.part.now _ t (length_push c.loop-part.yielded c.in-Some.part) (part_some c.in-Some.part.now (sym c.if-not-is_empty.ensures)) c.in_ok-push.ensures c.loop-part.invariant

pub loop-part-preserved : goal.loop-part-preserved
loop-part-preserved c =
    let again = c.into_iter-part-iterator.ensures.into_iter_gives in
    let t = YieldsList-turn (YieldsList-from_slice_split _ (λ b. b == 32) c.args.texts.now (ap split_rest again ∙ c.split-part-items.ensures.rest) (ap split_done again ∙ c.split-part-items.ensures.done) (ap split_callee again ∙ c.split-part-items.ensures.closure) (λ x b q k. search rules)) c.loop-part.yielded _ c.loop-part.yielded_by _ _ c.in-Some.part c.in-Some.is c.next.ensures.steps in
    no_text c.loop-part.self c.args.field (slice_split (λ b. b == 32) c.args.texts.now) (length c.loop-part.yielded) _ c.in-Some.part.now _ t (length_push c.loop-part.yielded c.in-Some.part) (part_none c.in-Some.part.now (sym c.if-not-is_empty.ensures)) c.loop-part.invariant

pub returns : goal.returns
returns c =
    let again = c.into_iter-part-iterator.ensures.into_iter_gives in
    let t = YieldsList-end (YieldsList-from_slice_split _ (λ b. b == 32) c.args.texts.now (ap split_rest again ∙ c.split-part-items.ensures.rest) (ap split_done again ∙ c.split-part-items.ensures.done) (ap split_callee again ∙ c.split-part-items.ensures.closure) (λ x b q k. search rules)) c.loop-part.yielded _ c.loop-part.yielded_by _ _ c.in-None.is c.next.ensures.steps in
    no_texts_left c.loop-part.self c.args.field (slice_split (λ b. b == 32) c.args.texts.now) (length c.loop-part.yielded) _ (omega (arith, t.1)) c.loop-part.invariant
