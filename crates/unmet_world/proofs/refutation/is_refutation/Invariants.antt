-- The steps from an index on follow, and what is gathered is by them.
use Rattle.std.proofs.Common.{◌≤◌, length, drop}
use Rattle.unmet_world.proofs.Steps.{AreGathered}
use Rattle.unmet_world.proofs.refutation.is_refutation.Given as goal

abbrev pub invariant-loop-left : goal.invariant-loop-left
invariant-loop-left l = record {
  within : l.left ≤ length l.refutation.steps.items;
  gathered : AreGathered l.pool (drop l.left l.refutation.steps.items) l.checked.out l.checked.sure;
}

abbrev pub decreases-loop-left : goal.decreases-loop-left
decreases-loop-left l = l.left
