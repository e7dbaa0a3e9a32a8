-- Each part is the next one of the text.
use Rattle.std.proofs.Common.{◌≡◌, cond, length, Some, None, sym, ◌∙◌, ap, rules, arith}
use Rattle.std.specs.Prelude.{◌==◌}
use Rattle.std.specs.List.{slice_split}
use Rattle.std.specs.Slice.Iter.{split_rest, split_done, split_callee}
use Rattle.std.proofs.lemmas.Iterator.Splits.{YieldsList-from_slice_split}
use Rattle.std.proofs.lemmas.Iterator.Consumers.{YieldsList-turn, YieldsList-end}
use Rattle.std.proofs.lemmas.List.{length_push}
use Rattle.make_info.specs.Fields.{dependency_values_of_parts, nonempty_parts_between_spaces}
use Rattle.make_info.specs.Reading.{nonempty_part}
use Rattle.v2_core.specs.InfoValues.{with_needs}
use Rattle.v2_core.specs.Views.{needs_view}
use Rattle.v2_core.proofs.NeedLists.{more_needs, no_needs_before, no_needs_left, stopped_needs}
use Rattle.v2_core.proofs.value.read_needs.Goals as goal

pub loop-part-init : goal.loop-part-init
loop-part-init c =
    no_needs_before c.new-needs.result (dependency_values_of_parts (nonempty_parts_between_spaces c.args.text.now)) c.new-needs.ensures.items

pub returns-then-not-branch : goal.returns-then-not-branch
returns-then-not-branch c =
    let again = c.into_iter-part-iterator.ensures.into_iter_gives in
    let t = YieldsList-turn (YieldsList-from_slice_split _ (λ b. b == 32) c.args.text.now (ap split_rest again ∙ c.split-part-items.ensures.rest) (ap split_done again ∙ c.split-part-items.ensures.done) (ap split_callee again ∙ c.split-part-items.ensures.closure) (λ x b q k. search rules)) c.loop-part.yielded _ c.loop-part.yielded_by _ _ c.in-Some.part c.in-Some.is c.next.ensures.steps in
    let bad : None ≡ with_needs (needs_view c.loop-part.needs) (dependency_values_of_parts (nonempty_part c.in-Some.part.now)) =
    ap (λ b. cond b (Some (needs_view c.add_need.new.needs)) None) (sym c.if-not-branch.true) ∙ c.in_ok-add_need.ensures in
    stopped_needs (needs_view c.loop-part.needs) (slice_split (λ b. b == 32) c.args.text.now) (length c.loop-part.yielded) c.in-Some.part.now _ t bad c.loop-part.invariant

pub loop-part-preserved : goal.loop-part-preserved
loop-part-preserved c =
    let again = c.into_iter-part-iterator.ensures.into_iter_gives in
    let t = YieldsList-turn (YieldsList-from_slice_split _ (λ b. b == 32) c.args.text.now (ap split_rest again ∙ c.split-part-items.ensures.rest) (ap split_done again ∙ c.split-part-items.ensures.done) (ap split_callee again ∙ c.split-part-items.ensures.closure) (λ x b q k. search rules)) c.loop-part.yielded _ c.loop-part.yielded_by _ _ c.in-Some.part c.in-Some.is c.next.ensures.steps in
    let good : Some (needs_view c.add_need.new.needs) ≡ with_needs (needs_view c.loop-part.needs) (dependency_values_of_parts (nonempty_part c.in-Some.part.now)) =
    ap (λ b. cond b (Some (needs_view c.add_need.new.needs)) None) (sym c.if-not-branch.false) ∙ c.in_ok-add_need.ensures in
    more_needs (needs_view c.loop-part.needs) (needs_view c.add_need.new.needs) (slice_split (λ b. b == 32) c.args.text.now) (length c.loop-part.yielded) _ c.in-Some.part.now _ t (length_push c.loop-part.yielded c.in-Some.part) good c.loop-part.invariant

pub returns : goal.returns
returns c =
    let again = c.into_iter-part-iterator.ensures.into_iter_gives in
    let t = YieldsList-end (YieldsList-from_slice_split _ (λ b. b == 32) c.args.text.now (ap split_rest again ∙ c.split-part-items.ensures.rest) (ap split_done again ∙ c.split-part-items.ensures.done) (ap split_callee again ∙ c.split-part-items.ensures.closure) (λ x b q k. search rules)) c.loop-part.yielded _ c.loop-part.yielded_by _ _ c.in-None.is c.next.ensures.steps in
    no_needs_left (needs_view c.loop-part.needs) (slice_split (λ b. b == 32) c.args.text.now) (length c.loop-part.yielded) _ (omega (arith, t.1)) c.loop-part.invariant
