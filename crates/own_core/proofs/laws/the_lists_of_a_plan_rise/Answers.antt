use Rattle.own_core.proofs.PlanNames.{aside_rise, kept_rise, removals_rise, writes_rise}
use Rattle.own_core.proofs.laws.the_lists_of_a_plan_rise.Goals as goal

pub returns-clause-writes : goal.returns-clause-writes
returns-clause-writes c = writes_rise

pub returns-clause-removals : goal.returns-clause-removals
returns-clause-removals c = removals_rise

pub returns-clause-kept : goal.returns-clause-kept
returns-clause-kept c = kept_rise

pub returns-clause-aside : goal.returns-clause-aside
returns-clause-aside c = aside_rise
