use Rattle.std.proofs.Common.{◌∙◌, subst, sym}
use Rattle.search_choices.specs.candidate_core.Rank.{SelectionProblem}
use Rattle.solve_core.specs.Clauses.{IsClause}
use Rattle.solve_core.proofs.search.conflict_ahead.Goals as goal

pub returns-in_err-begin-clause-known : goal.returns-in_err-begin-clause-known
returns-in_err-begin-clause-known c = c.begin.ensures

pub returns-in_err-propagate_turns-clause-known : goal.returns-in_err-propagate_turns-clause-known
returns-in_err-propagate_turns-clause-known c = c.propagate_turns.ensures.known ∙ c.begin.ensures

pub learn_from-requires : goal.learn_from-requires
learn_from-requires c =
    subst (λ (p : SelectionProblem). IsClause p c.in-Some.conflict) (sym c.propagate_turns.ensures.known)
    (rw c.in-Some.is at c.in_ok-propagate_turns.ensures.conflict)

pub returns-in_err-clause-in-Some-clause-known : goal.returns-in_err-clause-in-Some-clause-known
returns-in_err-clause-in-Some-clause-known c =
    c.learn_from.ensures.known ∙ (c.propagate_turns.ensures.known ∙ c.begin.ensures)

pub returns-in-None-clause-known : goal.returns-in-None-clause-known
returns-in-None-clause-known c = c.propagate_turns.ensures.known ∙ c.begin.ensures

pub returns-in_ok-clause-in-Some-clause-known : goal.returns-in_ok-clause-in-Some-clause-known
returns-in_ok-clause-in-Some-clause-known c =
    c.learn_from.ensures.known ∙ (c.propagate_turns.ensures.known ∙ c.begin.ensures)

pub returns-in_ok-clause-in-Some-clause-conflict : goal.returns-in_ok-clause-in-Some-clause-conflict
returns-in_ok-clause-in-Some-clause-conflict c =
    subst (λ (p : SelectionProblem). IsClause p c.in_ok-clause-in-Some.clause) (c.propagate_turns.ensures.known ∙ c.begin.ensures)
    c.in_ok-clause-in-Some.ensures.clause
