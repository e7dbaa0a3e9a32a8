use Rattle.std.proofs.Common.{◌≤◌}
use Rattle.adb_copy.proofs.overlaps.first_by_steps.Given as goal

abbrev pub invariant-loop-from : goal.invariant-loop-from
invariant-loop-from l = l.from ≤ l.fn.start

abbrev pub decreases-loop-from : goal.decreases-loop-from
decreases-loop-from l = l.from
