use Rattle.std.proofs.Common.{List, subst, sym}
use Rattle.search_choices.specs.candidate_core.Rank.{SelectionProblem}
use Rattle.solve_core.specs.Clauses.{AreClauses, ClauseValue, IsClause}
use Rattle.solve_core.proofs.Resolution.{clauses_more}
use Rattle.solve_core.proofs.known.Known.push_cause.Goals as goal

pub invariant_of-self-2 : goal.invariant_of-self-2
invariant_of-self-2 c =
    let pool : SelectionProblem = c.self.inside.pool.now in
    let more = subst (λ (z : List ClauseValue). AreClauses pool z) (sym c.in_ok-push.ensures.items)
    (clauses_more pool c.self.inside.causes.items c.args.clause c.self.invariant.2 (subst (λ (p : SelectionProblem). IsClause p c.args.clause) (sym c.self.view_is) c.requires)) in
    (c.self.invariant.0, c.self.invariant.1, more)
