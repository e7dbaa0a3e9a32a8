use Rattle.std.proofs.Common.{◌≡◌, List, subst}
use Rattle.std.specs.Prelude.{Some, slice_get}
use Rattle.search_choices.specs.candidate_core.Rank.{SelectionProblem}
use Rattle.solve_core.specs.Clauses.{ClauseValue, IsClause}
use Rattle.solve_core.proofs.Resolution as law
use Rattle.solve_core.proofs.known.Known.cause_at.Goals as goal

pub returns : goal.returns
returns c =
    subst (λ (p : SelectionProblem). IsClause p c.in_ok-clause.clause.now) c.self.view_is
    (law.clause_at c.self.inside.pool.now c.self.inside.causes.items c.args.step c.in_ok-clause.clause.now c.self.invariant.2
    (subst (λ (z : List ClauseValue). slice_get z c.args.step ≡ Some c.in_ok-clause.clause.now) c.as_slice.ensures.value c.in_ok-clause.ensures))
