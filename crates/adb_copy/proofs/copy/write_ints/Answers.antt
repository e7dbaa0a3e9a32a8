use Rattle.std.proofs.Common.{arith}
use Rattle.adb_copy.proofs.Lists.{ints_given, ints_left}
use Rattle.adb_copy.proofs.copy.write_ints.Goals as goal

pub loop-n-preserved : goal.loop-n-preserved
loop-n-preserved c = ints_left c.args.ints.now c.loop-n.n-index _ _ _ (omega arith) c.loop-n.invariant c.in_ok-write_int.ensures

pub returns : goal.returns
returns c = ints_given c.args.ints.now c.loop-n.n-index _ _ (omega arith) c.loop-n.invariant
