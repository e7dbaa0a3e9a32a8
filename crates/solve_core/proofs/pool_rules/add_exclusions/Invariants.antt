use Rattle.std.proofs.Common.{◌≡◌}
use Rattle.solve_core.proofs.pool_rules.add_exclusions.Given as goal

abbrev pub invariant-loop-other : goal.invariant-loop-other
invariant-loop-other l = l.known ≡ l.initial.known
