use Rattle.std.proofs.Common.{◌∙◌, refl, subst}
use Rattle.search_choices.specs.candidate_core.Rank.{SelectionProblem}
use Rattle.solve_core.specs.Clauses.{IsClause}
use Rattle.solve_core.proofs.search.propagate_turns.Goals as goal

pub returns-in_err-conflict-clause-known : goal.returns-in_err-conflict-clause-known
returns-in_err-conflict-clause-known c = c.propagate.ensures.known

pub returns-in-Some-clause-known : goal.returns-in-Some-clause-known
returns-in-Some-clause-known c = c.propagate.ensures.known

pub returns-in-Some-clause-conflict : goal.returns-in-Some-clause-conflict
returns-in-Some-clause-conflict c = rw c.in-Some.is at c.in_ok-conflict.ensures.conflict

pub loop-i-init : goal.loop-i-init
loop-i-init c = refl

pub returns-in_err-conflict-2-clause-known : goal.returns-in_err-conflict-2-clause-known
returns-in_err-conflict-2-clause-known c = c.choose.ensures.known ∙ (c.loop-i.invariant ∙ c.propagate.ensures.known)

pub returns-in-Some-2-clause-known : goal.returns-in-Some-2-clause-known
returns-in-Some-2-clause-known c = c.choose.ensures.known ∙ (c.loop-i.invariant ∙ c.propagate.ensures.known)

pub returns-in-Some-2-clause-conflict : goal.returns-in-Some-2-clause-conflict
returns-in-Some-2-clause-conflict c =
    subst (λ (p : SelectionProblem). IsClause p c.in-Some-2.conflict) (c.loop-i.invariant ∙ c.propagate.ensures.known)
    (rw c.in-Some-2.is at c.in_ok-conflict-2.ensures.conflict)

pub loop-i-preserved : goal.loop-i-preserved
loop-i-preserved c = c.choose.ensures.known ∙ c.loop-i.invariant

pub returns-clause-known : goal.returns-clause-known
returns-clause-known c = c.loop-i.invariant ∙ c.propagate.ensures.known
