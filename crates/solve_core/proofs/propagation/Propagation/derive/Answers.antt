use Rattle.std.proofs.Common.{◌∙◌}
use Rattle.solve_core.proofs.propagation.Propagation.derive.Goals as goal
use Rattle.solve_core.proofs.propagation.Propagation.derive.Goals.{in-Some-2+in_ok-push_cause-in-Unit+in_ok-push-in-Unit, in_default}

pub push_cause-requires : goal.push_cause-requires
push_cause-requires c = rw c.in-Some-2.is at c.in_ok-cause-in-Unit.ensures

pub returns-in_err-push_cause-in-Unit-clause-known : goal.returns-in_err-push_cause-in-Unit-clause-known
returns-in_err-push_cause-in-Unit-clause-known c = c.push_cause.ensures

pub returns-in_err-push-in-Unit-clause-known : goal.returns-in_err-push-in-Unit-clause-known
returns-in_err-push-in-Unit-clause-known c = c.push_cause.ensures

pub returns-in-Conflict-clause-conflict : goal.returns-in-Conflict-clause-conflict
returns-in-Conflict-clause-conflict c = c.without_options-in-Conflict.ensures

pub returns-after-branch-2-clause-known : goal.returns-after-branch-2-clause-known
returns-after-branch-2-clause-known c = elim c.match-branch-2.branch [
  | in-Some-2+in_ok-push_cause-in-Unit+in_ok-push-in-Unit w ↦ w.known-is ∙ w.push_cause.ensures
  | in_default w ↦ w.known-is
]
