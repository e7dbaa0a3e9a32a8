use Rattle.query_core.proofs.InOrder.{by_name, by_place, by_text, by_version}
use Rattle.query_core.proofs.QueryOrder.{one_place, query_total}
use Rattle.query_core.proofs.laws.the_order_of_queries_is_total.Goals as goal

pub returns-clause-total : goal.returns-clause-total
returns-clause-total c = query_total c.order_is_total.ensures

pub returns-clause-strict : goal.returns-clause-strict
returns-clause-strict c = one_place

pub returns-clause-name : goal.returns-clause-name
returns-clause-name c = by_name

pub returns-clause-version : goal.returns-clause-version
returns-clause-version c = by_version c.order_is_total.ensures

pub returns-clause-text : goal.returns-clause-text
returns-clause-text c = by_text c.order_is_total.ensures

pub returns-clause-place : goal.returns-clause-place
returns-clause-place c = by_place c.order_is_total.ensures
