use Rattle.std.proofs.Common.{◌≤◌, ◌-◌, length}
use Rattle.adb_copy.proofs.overlaps.end_by_steps.Given as goal

abbrev pub invariant-loop-end : goal.invariant-loop-end
invariant-loop-end l = record {
  behind : l.fn.start ≤ l.end;
  within : l.end ≤ length l.bytes;
}

abbrev pub decreases-loop-end : goal.decreases-loop-end
decreases-loop-end l = l.most - l.end
