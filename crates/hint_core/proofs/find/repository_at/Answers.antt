-- Each line is the next one of the text.
use Rattle.std.proofs.Common.{◌≡◌, ◌+◌, ◌++◌, [], ◌∷◌, length, drop, sym, ◌∙◌, ap, rules, arith}
use Rattle.std.specs.Slice.Iter.{split_rest, split_done, split_callee}
use Rattle.std.proofs.lemmas.Iterator.Splits.{YieldsList-from_slice_split}
use Rattle.std.proofs.lemmas.Iterator.Consumers.{YieldsList-turn, YieldsList-end}
use Rattle.std.proofs.lemmas.List.{length_push}
use Rattle.dep_core.specs.World.{is_line_end, lines_of}
use Rattle.hint_core.specs.Repositories.{repository_at}
use Rattle.hint_core.proofs.LinesFound.{bad_here, found_here, later_here, no_next, skipped_here}
use Rattle.hint_core.proofs.find.repository_at.Goals as goal
use Rattle.hint_core.proofs.find.repository_at.Goals.{in-Skipped, in-Path-2}

pub returns-in-Bad : goal.returns-in-Bad
returns-in-Bad c =
    let again = c.into_iter-part-iterator.ensures.into_iter_gives in
    let t = YieldsList-turn (YieldsList-from_slice_split _ is_line_end c.args.text.now (ap split_rest again ∙ c.split-part-items.ensures.rest) (ap split_done again ∙ c.split-part-items.ensures.done) (ap split_callee again ∙ c.split-part-items.ensures.closure) (λ x b q k. search rules)) c.loop-part.yielded _ c.loop-part.yielded_by _ _ c.in-Some.part c.in-Some.is c.next.ensures.steps in
    bad_here c.loop-part.left (c.loop-part.line + 1) (lines_of c.args.text.now) (length c.loop-part.yielded) c.in-Some.part.now _ t c.loop-part.invariant.1 (sym c.in_ok-path_alone.ensures ∙ c.in-Bad.is)

pub returns-in-Path : goal.returns-in-Path
returns-in-Path c =
    let again = c.into_iter-part-iterator.ensures.into_iter_gives in
    let t = YieldsList-turn (YieldsList-from_slice_split _ is_line_end c.args.text.now (ap split_rest again ∙ c.split-part-items.ensures.rest) (ap split_done again ∙ c.split-part-items.ensures.done) (ap split_callee again ∙ c.split-part-items.ensures.closure) (λ x b q k. search rules)) c.loop-part.yielded _ c.loop-part.yielded_by _ _ c.in-Some.part c.in-Some.is c.next.ensures.steps in
    found_here c.loop-part.left (c.loop-part.line + 1) (lines_of c.args.text.now) (length c.loop-part.yielded) c.in-Some.part.now _ t c.loop-part.invariant.1 c.in-Path.path (sym c.in_ok-path_alone.ensures ∙ c.in-Path.is) (omega (arith, c.if-left-eq1.true))

pub loop-part-preserved-after-branch-2 : goal.loop-part-preserved-after-branch-2
loop-part-preserved-after-branch-2 c =
    let again = c.into_iter-part-iterator.ensures.into_iter_gives in
    let t = YieldsList-turn (YieldsList-from_slice_split _ is_line_end c.args.text.now (ap split_rest again ∙ c.split-part-items.ensures.rest) (ap split_done again ∙ c.split-part-items.ensures.done) (ap split_callee again ∙ c.split-part-items.ensures.closure) (λ x b q k. search rules)) c.loop-part.yielded _ c.loop-part.yielded_by _ _ c.in-Some.part c.in-Some.is c.next.ensures.steps in
    let one_more = length_push c.loop-part.yielded c.in-Some.part in
    let next : length (c.loop-part.yielded ++ c.in-Some.part ∷ []) ≡ length c.loop-part.yielded + 1 = omega (arith, one_more) in (
      omega (arith, one_more, c.loop-part.invariant.0),
      elim c.match-branch-2.branch [
        | in-Skipped w ↦ ap (λ k. repository_at k (c.loop-part.line + 1 + 1) (drop (length (c.loop-part.yielded ++ c.in-Some.part ∷ [])) (lines_of c.args.text.now))) w.left-is ∙ skipped_here c.loop-part.left (c.loop-part.line + 1) (lines_of c.args.text.now) (length c.loop-part.yielded) c.in-Some.part.now _ t c.loop-part.invariant.1 _ next (sym c.in_ok-path_alone.ensures ∙ w.in-Skipped.is)
        | in-Path-2 w ↦ later_here c.loop-part.left (c.loop-part.line + 1) (lines_of c.args.text.now) (length c.loop-part.yielded) c.in-Some.part.now _ t c.loop-part.invariant.1 w.in-Path.path _ c.match-branch-2.left next (sym c.in_ok-path_alone.ensures ∙ w.in-Path.is) (λ one. absurd (omega (arith, one, w.if-left-eq1.false))) (w.left-is ∙ w.saturating_sub-left.ensures)
      ],
    )

pub loop-part-preserved : goal.loop-part-preserved
loop-part-preserved c =
    let again = c.into_iter-part-iterator.ensures.into_iter_gives in
    let t = YieldsList-turn (YieldsList-from_slice_split _ is_line_end c.args.text.now (ap split_rest again ∙ c.split-part-items.ensures.rest) (ap split_done again ∙ c.split-part-items.ensures.done) (ap split_callee again ∙ c.split-part-items.ensures.closure) (λ x b q k. search rules)) c.loop-part.yielded _ c.loop-part.yielded_by _ _ c.in-Some.part c.in-Some.is c.next.ensures.steps in
    let one_more = length_push c.loop-part.yielded c.in-Some.part in
    let next : length (c.loop-part.yielded ++ c.in-Some.part ∷ []) ≡ length c.loop-part.yielded + 1 = omega (arith, one_more) in (
      omega (arith, one_more, c.loop-part.invariant.0),
      elim c.match-branch-2.branch [
        | in-Skipped w ↦ ap (λ k. repository_at k (c.loop-part.line + 1 + 1) (drop (length (c.loop-part.yielded ++ c.in-Some.part ∷ [])) (lines_of c.args.text.now))) w.left-is ∙ skipped_here c.loop-part.left (c.loop-part.line + 1) (lines_of c.args.text.now) (length c.loop-part.yielded) c.in-Some.part.now _ t c.loop-part.invariant.1 _ next (sym c.in_ok-path_alone.ensures ∙ w.in-Skipped.is)
        | in-Path-2 w ↦ later_here c.loop-part.left (c.loop-part.line + 1) (lines_of c.args.text.now) (length c.loop-part.yielded) c.in-Some.part.now _ t c.loop-part.invariant.1 w.in-Path.path _ c.match-branch-2.left next (sym c.in_ok-path_alone.ensures ∙ w.in-Path.is) (λ one. absurd (omega (arith, one, w.if-left-eq1.false))) (w.left-is ∙ w.saturating_sub-left.ensures)
      ],
    )

pub returns : goal.returns
returns c =
    let again = c.into_iter-part-iterator.ensures.into_iter_gives in
    let t = YieldsList-end (YieldsList-from_slice_split _ is_line_end c.args.text.now (ap split_rest again ∙ c.split-part-items.ensures.rest) (ap split_done again ∙ c.split-part-items.ensures.done) (ap split_callee again ∙ c.split-part-items.ensures.closure) (λ x b q k. search rules)) c.loop-part.yielded _ c.loop-part.yielded_by _ _ c.in-None.is c.next.ensures.steps in
    sym (no_next c.loop-part.left (c.loop-part.line + 1) (lines_of c.args.text.now) (length c.loop-part.yielded) (omega (arith, t.1))) ∙ c.loop-part.invariant.1
