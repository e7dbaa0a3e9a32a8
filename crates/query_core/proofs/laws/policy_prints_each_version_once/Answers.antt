use Rattle.query_core.proofs.InOrder.{unknown_name, versions_each, versions_in_order, versions_those}
use Rattle.query_core.proofs.laws.policy_prints_each_version_once.Goals as goal

pub returns-clause-those : goal.returns-clause-those
returns-clause-those c = versions_those

pub returns-clause-each : goal.returns-clause-each
returns-clause-each c = versions_each

pub returns-clause-order : goal.returns-clause-order
returns-clause-order c = versions_in_order c.order_is_total.ensures

pub returns-clause-unknown : goal.returns-clause-unknown
returns-clause-unknown c = unknown_name
