use Rattle.std.proofs.Common.{◌∙◌, refl, subst}
use Rattle.search_choices.specs.candidate_core.Rank.{SelectionProblem}
use Rattle.solve_core.specs.Clauses.{IsClause}
use Rattle.solve_core.proofs.propagation.Propagation.visit.Goals as goal

pub loop-left-init : goal.loop-left-init
loop-left-init c = refl

pub returns-in_err-index-clause-known : goal.returns-in_err-index-clause-known
returns-in_err-index-clause-known c = c.loop-left.invariant

pub returns-in_err-conflict-clause-known : goal.returns-in_err-conflict-clause-known
returns-in_err-conflict-clause-known c = c.derive.ensures.known ∙ c.loop-left.invariant

pub returns-in-Some-2-clause-known : goal.returns-in-Some-2-clause-known
returns-in-Some-2-clause-known c = c.derive.ensures.known ∙ c.loop-left.invariant

pub returns-in-Some-2-clause-conflict : goal.returns-in-Some-2-clause-conflict
returns-in-Some-2-clause-conflict c =
    subst (λ (p : SelectionProblem). IsClause p c.in-Some-2.conflict) c.loop-left.invariant
    (rw c.in-Some-2.is at c.in_ok-conflict.ensures.conflict)

pub loop-left-preserved-in_default-2 : goal.loop-left-preserved-in_default-2
loop-left-preserved-in_default-2 c = c.derive.ensures.known ∙ c.loop-left.invariant

pub loop-left-preserved : goal.loop-left-preserved
loop-left-preserved c = c.loop-left.invariant

pub returns-clause-known : goal.returns-clause-known
returns-clause-known c = c.loop-left.invariant
