-- Each line is the next one of the text.
use Rattle.std.proofs.Common.{◌≡◌, ◌+◌, ◌-◌, ◌++◌, [], ◌∷◌, suc, length, drop, sym, ◌∙◌, ap, rules, arith}
use Rattle.std.specs.Slice.Iter.{split_rest, split_done, split_callee}
use Rattle.std.proofs.lemmas.Iterator.Splits.{YieldsList-from_slice_split}
use Rattle.std.proofs.lemmas.Iterator.Consumers.{YieldsList-turn, YieldsList-end}
use Rattle.std.proofs.lemmas.List.{length_push}
use Rattle.std.specs.List.{slice_get}
use Rattle.dep_core.specs.World.{is_line_end, lines_of}
use Rattle.hint_core.proofs.LinesFound.{line_here, line_later, line_none}
use Rattle.hint_core.proofs.find.line_at.Goals as goal

pub returns-then-left-eq0 : goal.returns-then-left-eq0
returns-then-left-eq0 c =
    let again = c.into_iter-line-iterator.ensures.into_iter_gives in
    let t = YieldsList-turn (YieldsList-from_slice_split _ is_line_end c.args.text.now (ap split_rest again ∙ c.split-line-items.ensures.rest) (ap split_done again ∙ c.split-line-items.ensures.done) (ap split_callee again ∙ c.split-line-items.ensures.closure) (λ x b q k. search rules)) c.loop-line.yielded _ c.loop-line.yielded_by _ _ c.in-Some.line c.in-Some.is c.next.ensures.steps in
    let none : 0 ≡ c.loop-line.left = omega (arith, c.if-left-eq0.true) in
    sym (line_here (lines_of c.args.text.now) (length c.loop-line.yielded) c.in-Some.line.now t)
    ∙ (ap (slice_get (drop (length c.loop-line.yielded) (lines_of c.args.text.now))) none ∙ c.loop-line.invariant)

pub loop-line-preserved : goal.loop-line-preserved
loop-line-preserved c =
    let again = c.into_iter-line-iterator.ensures.into_iter_gives in
    let t = YieldsList-turn (YieldsList-from_slice_split _ is_line_end c.args.text.now (ap split_rest again ∙ c.split-line-items.ensures.rest) (ap split_done again ∙ c.split-line-items.ensures.done) (ap split_callee again ∙ c.split-line-items.ensures.closure) (λ x b q k. search rules)) c.loop-line.yielded _ c.loop-line.yielded_by _ _ c.in-Some.line c.in-Some.is c.next.ensures.steps in
    let one_more = length_push c.loop-line.yielded c.in-Some.line in
    let next : length (c.loop-line.yielded ++ c.in-Some.line ∷ []) ≡ length c.loop-line.yielded + 1 = omega (arith, one_more) in
    let more : suc (c.loop-line.left - 1) ≡ c.loop-line.left = omega (arith, c.if-left-eq0.false) in
    ap (λ i. slice_get (drop i (lines_of c.args.text.now)) (c.loop-line.left - 1)) next
    ∙ (sym (line_later (lines_of c.args.text.now) (length c.loop-line.yielded) (c.loop-line.left - 1) c.in-Some.line.now t)
    ∙ (ap (slice_get (drop (length c.loop-line.yielded) (lines_of c.args.text.now))) more ∙ c.loop-line.invariant))

pub returns : goal.returns
returns c =
    let again = c.into_iter-line-iterator.ensures.into_iter_gives in
    let t = YieldsList-end (YieldsList-from_slice_split _ is_line_end c.args.text.now (ap split_rest again ∙ c.split-line-items.ensures.rest) (ap split_done again ∙ c.split-line-items.ensures.done) (ap split_callee again ∙ c.split-line-items.ensures.closure) (λ x b q k. search rules)) c.loop-line.yielded _ c.loop-line.yielded_by _ _ c.in-None.is c.next.ensures.steps in
    sym (line_none (lines_of c.args.text.now) (length c.loop-line.yielded) c.loop-line.left (omega (arith, t.1))) ∙ c.loop-line.invariant
