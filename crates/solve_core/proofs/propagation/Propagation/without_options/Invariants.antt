use Rattle.solve_core.specs.Clauses.{IsClause}
use Rattle.solve_core.proofs.propagation.Propagation.without_options.Given as goal

abbrev pub invariant-loop-option : goal.invariant-loop-option
invariant-loop-option l = IsClause l.known l.clause
