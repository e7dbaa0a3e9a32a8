use Rattle.solve_core.specs.Clauses.{IsClause}
use Rattle.solve_core.proofs.propagation.Propagation.resolved.Given as goal

abbrev pub invariant-loop-left : goal.invariant-loop-left
invariant-loop-left l = IsClause l.known l.clause

abbrev pub decreases-loop-left : goal.decreases-loop-left
decreases-loop-left l = l.left
