use Rattle.std.proofs.Common.{◌∙◌, refl, subst}
use Rattle.search_choices.specs.candidate_core.Rank.{SelectionProblem}
use Rattle.solve_core.specs.Clauses.{IsClause}
use Rattle.solve_core.proofs.propagation.Propagation.derive_all.Goals as goal

pub loop-index-init : goal.loop-index-init
loop-index-init c = refl

pub returns-in_err-conflict-clause-known : goal.returns-in_err-conflict-clause-known
returns-in_err-conflict-clause-known c = c.derive.ensures.known ∙ c.loop-index.invariant

pub returns-in-Some-clause-known : goal.returns-in-Some-clause-known
returns-in-Some-clause-known c = c.derive.ensures.known ∙ c.loop-index.invariant

pub returns-in-Some-clause-conflict : goal.returns-in-Some-clause-conflict
returns-in-Some-clause-conflict c =
    subst (λ (p : SelectionProblem). IsClause p c.in-Some.conflict) c.loop-index.invariant
    (rw c.in-Some.is at c.in_ok-conflict.ensures.conflict)

pub loop-index-preserved : goal.loop-index-preserved
loop-index-preserved c = c.derive.ensures.known ∙ c.loop-index.invariant

pub returns-clause-known : goal.returns-clause-known
returns-clause-known c = c.loop-index.invariant
