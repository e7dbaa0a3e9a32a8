use Rattle.std.proofs.Common.{None}
use Rattle.base_core.proofs.Counting.{readings_none, readings_two}
use Rattle.base_core.proofs.ReadAfter.{second_reading_failed}
use Rattle.apk_front.proofs.Operands.{any_value, fine_none, found_here, found_more, read_here, read_more, read_none}
use Rattle.apk_front.proofs.verify.first_refusal.Goals as goal

pub loop-i-init : goal.loop-i-init
loop-i-init g c = record {
  found = fine_none _ c.args.operands.now;
  by_reads = read_none c.args.operands.now;
  tree = readings_none _ _ _ None;
}

pub returns-then-is_some-clause-found : goal.returns-then-is_some-clause-found
returns-then-is_some-clause-found g c = found_here _ _ c.args.operands.now c.loop-i.i c.get.result.now c.file.result.now _ c.loop-i.invariant.tree.same c.get.ensures c.file.ensures c.loop-i.invariant.found c.in_ok-refusal.ensures.found c.if-is_some.ensures

pub returns-then-is_some-clause-by_reads : goal.returns-then-is_some-clause-by_reads
returns-then-is_some-clause-by_reads g c = read_here c.args.operands.now c.loop-i.i c.get.result.now _ c.get.ensures c.loop-i.invariant.by_reads c.in_ok-refusal.ensures.by_reads c.if-is_some.ensures

pub loop-i-preserved : goal.loop-i-preserved
loop-i-preserved g c = record {
  found = found_more _ _ c.args.operands.now c.loop-i.i c.get.result.now c.file.result.now _ c.loop-i.invariant.tree.same c.get.ensures c.file.ensures c.loop-i.invariant.found c.in_ok-refusal.ensures.found c.if-is_some.ensures;
  by_reads = read_more c.args.operands.now c.loop-i.i c.get.result.now _ c.get.ensures c.loop-i.invariant.by_reads c.in_ok-refusal.ensures.by_reads c.if-is_some.ensures;
  tree =
      any_value _ _ _ _ _ c.test_file.result _ None c.in_ok-refusal.was
      (readings_two _ _ _ _ _ _ _ None c.test_file.result c.loop-i.invariant.tree c.test_file.ensures.tree);
}

pub returns-in_err-refusal-clause-tree : goal.returns-in_err-refusal-clause-tree
returns-in_err-refusal-clause-tree g c = second_reading_failed _ _ _ _ _ _ _ _ _ c.from_residual.result c.from_residual.ensures.1 c.loop-i.invariant.tree c.in_err-refusal.ensures.tree

pub returns-then-is_some-clause-tree : goal.returns-then-is_some-clause-tree
returns-then-is_some-clause-tree g c = readings_two _ _ _ _ _ _ _ None _ c.loop-i.invariant.tree c.in_ok-refusal.ensures.tree
