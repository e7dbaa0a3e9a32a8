use Rattle.std.proofs.Common.{List, subst, sym}
use Rattle.search_choices.specs.candidate_core.Rank.{SelectionProblem}
use Rattle.solve_core.specs.Clauses.{AreClauses, ClauseValue}
use Rattle.solve_core.proofs.Resolution.{clauses_fewer}
use Rattle.solve_core.proofs.known.Known.truncate.Goals as goal

pub invariant_of-self : goal.invariant_of-self
invariant_of-self c =
    let pool : SelectionProblem = c.self.inside.pool.now in
    let fewer = subst (λ (z : List ClauseValue). AreClauses pool z) (sym c.truncate.ensures.items) (clauses_fewer pool c.args.len c.self.inside.clauses.items c.self.invariant.1) in
    (c.self.invariant.0, fewer, c.self.invariant.2)
