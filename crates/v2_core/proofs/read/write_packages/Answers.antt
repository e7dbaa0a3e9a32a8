-- Each line is the next one of the text.
use Rattle.std.proofs.Common.{IfErr, Err, length, ◌∙◌, ap, sym, subst, rules, arith}
use Rattle.std.specs.Slice.Iter.{split_rest, split_done, split_callee}
use Rattle.std.proofs.lemmas.Iterator.Splits.{YieldsList-from_slice_split}
use Rattle.std.proofs.lemmas.Iterator.Consumers.{YieldsList-turn, YieldsList-end}
use Rattle.std.proofs.lemmas.List.{length_push}
use Rattle.std.proofs.lemmas.Result.{err_from_is_err_and}
use Rattle.dep_core.specs.World.{is_line_end, lines_of}
use Rattle.v2_core.specs.Reading.{records_of}
use Rattle.v2_core.specs.Writing.{IsLineFault, draft_with_records}
use Rattle.v2_core.proofs.TextLines.{all_read_at_end, fault_at_end, fault_at_line, turn}
use Rattle.v2_core.proofs.read.write_packages.Goals as goal

pub loop-line-preserved : goal.loop-line-preserved
loop-line-preserved c =
    let again = c.into_iter-line-iterator.ensures.into_iter_gives in
    let t = YieldsList-turn (YieldsList-from_slice_split _ is_line_end c.args.bytes.now (ap split_rest again ∙ c.split-line-items.ensures.rest) (ap split_done again ∙ c.split-line-items.ensures.done) (ap split_callee again ∙ c.split-line-items.ensures.closure) (λ x b q k. search rules)) c.loop-line.yielded _ c.loop-line.yielded_by _ _ c.in-Some.line c.in-Some.is c.next.ensures.steps in
    let one_more = length_push c.loop-line.yielded c.in-Some.line in (
      omega (arith, one_more, c.loop-line.invariant.0),
      turn (draft_with_records (records_of c.args.bytes.now) c.args.draft.now) c.loop-line.draft c.add_line.new.draft c.loop-line.number c.loop-line.record c.add_line.new.text_record (lines_of c.args.bytes.now) (length c.loop-line.yielded) _ c.in-Some.line.now one_more t c.loop-line.invariant.1 c.in_ok-add_line.ensures.ok,
    )

pub returns-in_err-add_line-clause-bad : goal.returns-in_err-add_line-clause-bad
returns-in_err-add_line-clause-bad c =
    let again = c.into_iter-line-iterator.ensures.into_iter_gives in
    let t = YieldsList-turn (YieldsList-from_slice_split _ is_line_end c.args.bytes.now (ap split_rest again ∙ c.split-line-items.ensures.rest) (ap split_done again ∙ c.split-line-items.ensures.done) (ap split_callee again ∙ c.split-line-items.ensures.closure) (λ x b q k. search rules)) c.loop-line.yielded _ c.loop-line.yielded_by _ _ c.in-Some.line c.in-Some.is c.next.ensures.steps in
    let p = err_from_is_err_and c.from_residual.result c.from_residual.ensures.1 in
    subst (λ r. IfErr r (λ fault. IsLineFault fault (records_of c.args.bytes.now))) (sym (p.1 ∙ ap Err p.2))
    (fault_at_line c.in_err-add_line.field-0.0 (records_of c.args.bytes.now) c.loop-line.draft c.args.draft.now c.loop-line.number c.loop-line.record (lines_of c.args.bytes.now) (length c.loop-line.yielded) c.in-Some.line.now t c.loop-line.invariant.1 c.in_err-add_line.ensures.bad)

pub returns-clause-bad : goal.returns-clause-bad
returns-clause-bad c =
    let again = c.into_iter-line-iterator.ensures.into_iter_gives in
    let t = YieldsList-end (YieldsList-from_slice_split _ is_line_end c.args.bytes.now (ap split_rest again ∙ c.split-line-items.ensures.rest) (ap split_done again ∙ c.split-line-items.ensures.done) (ap split_callee again ∙ c.split-line-items.ensures.closure) (λ x b q k. search rules)) c.loop-line.yielded _ c.loop-line.yielded_by _ _ c.in-None.is c.next.ensures.steps in
    fault_at_end c.write_record.result (records_of c.args.bytes.now) c.loop-line.draft c.args.draft.now c.loop-line.number c.loop-line.record (lines_of c.args.bytes.now) (length c.loop-line.yielded) (omega (arith, t.1)) c.loop-line.invariant.1 c.write_record.ensures.bad

pub returns-clause-ok : goal.returns-clause-ok
returns-clause-ok c =
    let again = c.into_iter-line-iterator.ensures.into_iter_gives in
    let t = YieldsList-end (YieldsList-from_slice_split _ is_line_end c.args.bytes.now (ap split_rest again ∙ c.split-line-items.ensures.rest) (ap split_done again ∙ c.split-line-items.ensures.done) (ap split_callee again ∙ c.split-line-items.ensures.closure) (λ x b q k. search rules)) c.loop-line.yielded _ c.loop-line.yielded_by _ _ c.in-None.is c.next.ensures.steps in
    all_read_at_end c.write_record.result (records_of c.args.bytes.now) c.args.draft.now c.loop-line.draft c.write_record.new.draft c.loop-line.number c.loop-line.record (lines_of c.args.bytes.now) (length c.loop-line.yielded) (omega (arith, t.1)) c.loop-line.invariant.1 c.write_record.ensures.ok
