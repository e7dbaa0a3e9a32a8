use Rattle.std.proofs.Common.{refl, subst, sym}
use Rattle.solve_core.specs.Clauses.{ClauseValue, IsClause}
use Rattle.solve_core.proofs.propagation.Propagation.learn_from.Goals as goal

pub resolved-requires : goal.resolved-requires
resolved-requires c = c.requires

pub returns-in_err-learnt-clause-known : goal.returns-in_err-learnt-clause-known
returns-in_err-learnt-clause-known c = refl

pub returns-in_err-copy-clause-known : goal.returns-in_err-copy-clause-known
returns-in_err-copy-clause-known c = refl

pub resolved-requires-2 : goal.resolved-requires-2
resolved-requires-2 c = c.in_ok-learnt.ensures

pub returns-in_err-of_choices-clause-known : goal.returns-in_err-of_choices-clause-known
returns-in_err-of_choices-clause-known c = refl

pub learn-requires : goal.learn-requires
learn-requires c = subst (λ (z : ClauseValue). IsClause c.args.known.now z) (sym c.in_ok-copy.ensures) c.in_ok-learnt.ensures

pub returns-in_err-learn-clause-known : goal.returns-in_err-learn-clause-known
returns-in_err-learn-clause-known c = c.learn.ensures

pub returns-clause-known : goal.returns-clause-known
returns-clause-known c = c.learn.ensures

pub returns-clause-clause : goal.returns-clause-clause
returns-clause-clause c = c.in_ok-of_choices.ensures
