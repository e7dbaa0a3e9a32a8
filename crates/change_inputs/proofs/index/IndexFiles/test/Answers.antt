use Rattle.std.proofs.Common.{ℕ, arith}
use Rattle.change_inputs.proofs.Handed.{handed_on}
use Rattle.change_inputs.proofs.IndexSteps.{all_pass, all_seen, few_bytes, in_list, tested_more, tested_refused}
use Rattle.change_inputs.specs.IndexFiles.{bytes_of_each, index_of_file}
use Rattle.change_inputs.specs.Seen.{indexes_seen}
use Rattle.change_inputs.proofs.index.IndexFiles.test.Goals as goal

pub returns-in_err-test_index_file-clause-answer : goal.returns-in_err-test_index_file-clause-answer
returns-in_err-test_index_file-clause-answer c =
    handed_on indexes_seen _ c.from_residual.result _ c.from_residual.ensures.1
    (tested_refused {U = ℕ} indexes_seen (bytes_of_each c.args.files.items) c.loop-i.i c.deref.result.now (λ u. index_of_file c.deref.result.now) c.in_err-test_index_file.field-0.0
    (in_list c.args.files.items c.loop-i.i c.index.result.now c.deref.result.now (omega arith) c.index.ensures c.deref.ensures.value)
    c.in_err-test_index_file.ensures.answer c.loop-i.invariant)

pub loop-i-preserved : goal.loop-i-preserved
loop-i-preserved c =
    tested_more (bytes_of_each c.args.files.items) c.loop-i.i c.deref.result.now
    (in_list c.args.files.items c.loop-i.i c.index.result.now c.deref.result.now (omega arith) c.index.ensures c.deref.ensures.value)
    c.in_ok-test_index_file.ensures.passed c.in_ok-test_index_file.ensures.answer c.loop-i.invariant

pub returns-clause-answer : goal.returns-clause-answer
returns-clause-answer c =
    all_seen 1 (bytes_of_each c.args.files.items)
    (all_pass (bytes_of_each c.args.files.items) c.loop-i.i (few_bytes c.args.files.items c.loop-i.i (omega arith)) c.loop-i.invariant)
