use Rattle.std.proofs.Common.{arith}
use Rattle.tree_memory.proofs.Picking.{names_more}
use Rattle.tree_memory.proofs.image.names_after.Goals as goal

pub loop-change-preserved : goal.loop-change-preserved
loop-change-preserved c = record {
  same = λ contents. names_more contents c.args.changes.now c.loop-change.change-index c.change-item.result c.replay.new.names.entries.items c.in_ok-made.made c.loop-change-test.true c.change-item.is
      (c.in_ok-made.ensures.names contents _ (c.loop-change.invariant.same contents));
  few = omega (arith, c.in_ok-made.ensures.bound, c.loop-change.invariant.few);
}
