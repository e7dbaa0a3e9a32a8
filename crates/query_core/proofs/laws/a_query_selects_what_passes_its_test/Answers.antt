use Rattle.query_core.proofs.InOrder.{passes, selected_in_order, selects}
use Rattle.query_core.proofs.laws.a_query_selects_what_passes_its_test.Goals as goal

pub returns-clause-those : goal.returns-clause-those
returns-clause-those c = passes

pub returns-clause-each : goal.returns-clause-each
returns-clause-each c = selects

pub returns-clause-order : goal.returns-clause-order
returns-clause-order c = selected_in_order c.order_is_total.ensures
