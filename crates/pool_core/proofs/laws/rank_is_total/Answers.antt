use Rattle.option_ranks.proofs.candidate_core.OptionLists.{same_place}
use Rattle.option_ranks.proofs.RankOrder.{rank_total}
use Rattle.pool_core.proofs.laws.rank_is_total.Goals as goal

pub returns-clause-total : goal.returns-clause-total
returns-clause-total c = λ pool need. rank_total c.order_is_total.ensures pool need

pub returns-clause-strict : goal.returns-clause-strict
returns-clause-strict c = λ pool need a b h. same_place pool need a b h
