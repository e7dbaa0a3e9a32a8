use Rattle.std.proofs.Common.{◌-◌}
use Rattle.version_core.specs.Reading.{AreEqualUpTo}
use Rattle.version_core.proofs.order.equal_blocks.Given as goal

abbrev pub invariant-loop-len : goal.invariant-loop-len
invariant-loop-len l = AreEqualUpTo l.left l.right l.len

abbrev pub decreases-loop-len : goal.decreases-loop-len
decreases-loop-len l = l.most - l.len
