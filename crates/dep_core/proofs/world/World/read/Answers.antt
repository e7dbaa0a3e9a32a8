-- Each line is the next one of the text.
use Rattle.std.proofs.Common.{◌≡◌, ◌+◌, cond, length, Some, None, Ok, refl, sym, ◌∙◌, ap, rules, arith}
use Rattle.std.specs.Slice.Iter.{split_rest, split_done, split_callee}
use Rattle.std.proofs.lemmas.Iterator.Splits.{YieldsList-from_slice_split}
use Rattle.std.proofs.lemmas.Iterator.Consumers.{YieldsList-turn, YieldsList-end}
use Rattle.std.proofs.lemmas.List.{length_push}
use Rattle.dep_core.specs.World.{is_line_end, lines_of, world_with_lines, world_with_words, words_between_blanks, world_of}
use Rattle.dep_core.proofs.Lines.{bad_line, good_line, no_line}
use Rattle.dep_core.proofs.world.World.read.Goals as goal

pub loop-text-init : goal.loop-text-init
unfolding world_of
loop-text-init c = (refl, ap (λ w. world_with_lines w 1 (lines_of c.args.bytes.now)) c.new-found.ensures)

pub returns-then-not-branch-clause-bad : goal.returns-then-not-branch-clause-bad
returns-then-not-branch-clause-bad c =
    let again = c.into_iter-text-iterator.ensures.into_iter_gives in
    let t = YieldsList-turn (YieldsList-from_slice_split _ is_line_end c.args.bytes.now (ap split_rest again ∙ c.split-text-items.ensures.rest) (ap split_done again ∙ c.split-text-items.ensures.done) (ap split_callee again ∙ c.split-text-items.ensures.closure) (λ x b q k. search rules)) c.loop-text.yielded _ c.loop-text.yielded_by _ _ c.in-Some.text c.in-Some.is c.next.ensures.steps in
    let bad : world_with_words c.loop-text.found (words_between_blanks c.in-Some.text.now) ≡ None =
    c.in_ok-add_line.ensures ∙ ap (λ b. cond b (Some c.add_line.new.self) None) c.if-not-branch.true in
    bad_line c.loop-text.found (c.loop-text.line + 1) (lines_of c.args.bytes.now) (length c.loop-text.yielded) c.in-Some.text.now _ t bad c.loop-text.invariant.1

pub loop-text-preserved : goal.loop-text-preserved
loop-text-preserved c =
    let again = c.into_iter-text-iterator.ensures.into_iter_gives in
    let t = YieldsList-turn (YieldsList-from_slice_split _ is_line_end c.args.bytes.now (ap split_rest again ∙ c.split-text-items.ensures.rest) (ap split_done again ∙ c.split-text-items.ensures.done) (ap split_callee again ∙ c.split-text-items.ensures.closure) (λ x b q k. search rules)) c.loop-text.yielded _ c.loop-text.yielded_by _ _ c.in-Some.text c.in-Some.is c.next.ensures.steps in
    let good : world_with_words c.loop-text.found (words_between_blanks c.in-Some.text.now) ≡ Some c.add_line.new.self =
    c.in_ok-add_line.ensures ∙ ap (λ b. cond b (Some c.add_line.new.self) None) c.if-not-branch.false in
    let one_more = length_push c.loop-text.yielded c.in-Some.text in
    (omega (arith, one_more), good_line c.loop-text.found c.add_line.new.self (c.loop-text.line + 1) _ (lines_of c.args.bytes.now) (length c.loop-text.yielded) c.in-Some.text.now _ t good one_more c.loop-text.invariant.1)

pub returns-clause-ok : goal.returns-clause-ok
returns-clause-ok c =
    let again = c.into_iter-text-iterator.ensures.into_iter_gives in
    let t = YieldsList-end (YieldsList-from_slice_split _ is_line_end c.args.bytes.now (ap split_rest again ∙ c.split-text-items.ensures.rest) (ap split_done again ∙ c.split-text-items.ensures.done) (ap split_callee again ∙ c.split-text-items.ensures.closure) (λ x b q k. search rules)) c.loop-text.yielded _ c.loop-text.yielded_by _ _ c.in-None.is c.next.ensures.steps in
    no_line c.loop-text.found (c.loop-text.line + 1) (lines_of c.args.bytes.now) (length c.loop-text.yielded) _ (omega (arith, t.1)) c.loop-text.invariant.1
    ∙ sym (ap Ok c.in_ok-entries.ensures.value)
