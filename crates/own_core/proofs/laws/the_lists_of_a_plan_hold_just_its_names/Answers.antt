use Rattle.own_core.proofs.PlanNames.{aside_hold, kept_hold, removals_hold, writes_are, writes_hold}
use Rattle.own_core.proofs.laws.the_lists_of_a_plan_hold_just_its_names.Goals as goal

pub returns-clause-writes : goal.returns-clause-writes
returns-clause-writes c = writes_are

pub returns-clause-written : goal.returns-clause-written
returns-clause-written c = writes_hold

pub returns-clause-removed : goal.returns-clause-removed
returns-clause-removed c = removals_hold

pub returns-clause-kept : goal.returns-clause-kept
returns-clause-kept c = kept_hold

pub returns-clause-aside : goal.returns-clause-aside
returns-clause-aside c = aside_hold
