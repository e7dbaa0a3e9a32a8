use Rattle.std.proofs.Common.{◌∙◌, subst}
use Rattle.search_choices.specs.candidate_core.Rank.{SelectionProblem}
use Rattle.solve_core.specs.Clauses.{IsClauseIfFound}
use Rattle.solve_core.proofs.propagation.Propagation.propagate.Goals as goal

pub returns-in_err-conflict-clause-known : goal.returns-in_err-conflict-clause-known
returns-in_err-conflict-clause-known c = c.derive_all.ensures.known

pub returns-in-Some-clause-known : goal.returns-in-Some-clause-known
returns-in-Some-clause-known c = c.derive_all.ensures.known

pub returns-in-Some-clause-conflict : goal.returns-in-Some-clause-conflict
returns-in-Some-clause-conflict c = rw c.in-Some.is at c.in_ok-conflict.ensures.conflict

pub returns-clause-known : goal.returns-clause-known
returns-clause-known c = c.propagate_steps.ensures.known ∙ c.derive_all.ensures.known

pub returns-clause-conflict : goal.returns-clause-conflict
returns-clause-conflict c =
    subst (λ (p : SelectionProblem). IsClauseIfFound p c.propagate_steps.result) c.derive_all.ensures.known c.propagate_steps.ensures.conflict
