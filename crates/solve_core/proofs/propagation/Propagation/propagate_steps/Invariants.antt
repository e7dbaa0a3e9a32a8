use Rattle.std.proofs.Common.{◌≡◌}
use Rattle.solve_core.proofs.propagation.Propagation.propagate_steps.Given as goal

abbrev pub invariant-loop-left : goal.invariant-loop-left
invariant-loop-left l = l.known ≡ l.initial.known

abbrev pub decreases-loop-left : goal.decreases-loop-left
decreases-loop-left l = l.left
