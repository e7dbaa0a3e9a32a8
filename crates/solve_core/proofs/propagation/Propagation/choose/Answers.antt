use Rattle.std.proofs.Common.{◌≡◌, ◌∙◌, refl, subst}
use Rattle.search_choices.specs.candidate_core.Rank.{SelectionProblem}
use Rattle.solve_core.specs.Clauses.{IsClauseIfFound}
use Rattle.solve_core.proofs.propagation.Propagation.choose.Goals as goal
use Rattle.solve_core.proofs.propagation.Propagation.choose.Goals.{in-Some-true, in-None+in_ok-trivial_clause-in-None+in_ok-push_cause-in-None+in_ok-push-in-None}

-- once the choice is on the trail, the pool of the known clauses is still that of the call
same_pool : (c : goal.After-propagate) → c.match-truth.known ≡ c.args.known.now
same_pool c = elim c.match-truth.branch [
  | in-Some-true w ↦ w.known-is
  | in-None+in_ok-trivial_clause-in-None+in_ok-push_cause-in-None+in_ok-push-in-None w ↦ w.known-is ∙ w.push_cause.ensures
]

pub returns-in_err-begin_level-clause-known : goal.returns-in_err-begin_level-clause-known
returns-in_err-begin_level-clause-known c = refl

pub returns-in-Some-false-clause-known : goal.returns-in-Some-false-clause-known
returns-in-Some-false-clause-known c = refl

pub returns-in-Some-false-clause-conflict : goal.returns-in-Some-false-clause-conflict
returns-in-Some-false-clause-conflict c = c.cause_against.ensures

pub returns-in_err-trivial_clause-in-None-clause-known : goal.returns-in_err-trivial_clause-in-None-clause-known
returns-in_err-trivial_clause-in-None-clause-known c = refl

pub push_cause-requires : goal.push_cause-requires
push_cause-requires c = c.in_ok-trivial_clause-in-None.ensures c.args.known.now

pub returns-in_err-push_cause-in-None-clause-known : goal.returns-in_err-push_cause-in-None-clause-known
returns-in_err-push_cause-in-None-clause-known c = c.push_cause.ensures

pub returns-in_err-push-in-None-clause-known : goal.returns-in_err-push-in-None-clause-known
returns-in_err-push-in-None-clause-known c = c.push_cause.ensures

pub returns-clause-known : goal.returns-clause-known
returns-clause-known c = c.propagate.ensures.known ∙ same_pool c

pub returns-clause-conflict : goal.returns-clause-conflict
returns-clause-conflict c =
    subst (λ (p : SelectionProblem). IsClauseIfFound p c.propagate.result) (same_pool c) c.propagate.ensures.conflict
