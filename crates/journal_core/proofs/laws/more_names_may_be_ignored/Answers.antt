use Rattle.base_core.proofs.Undone.{order_weaker}
use Rattle.journal_core.specs.Recovery.{StateDependsOn}
use Rattle.journal_core.proofs.More.{old_or_new_more, quiet_more, rests_fewer, settled_more, states_same}
use Rattle.journal_core.proofs.laws.more_names_may_be_ignored.Goals as goal

pub returns-clause-order : goal.returns-clause-order
returns-clause-order c = λ few many v up. order_weaker (StateDependsOn few) (StateDependsOn many) v (rests_fewer few many up)

pub returns-clause-state : goal.returns-clause-state
returns-clause-state c = λ few many a b up. states_same few many up a b

pub returns-clause-quiet : goal.returns-clause-quiet
returns-clause-quiet c = λ few many start v up. quiet_more few many up start v

pub returns-clause-settled : goal.returns-clause-settled
returns-clause-settled c = λ few many files v up. settled_more few many up files v

pub returns-clause-old_or_new : goal.returns-clause-old_or_new
returns-clause-old_or_new c = λ few many start files v up. old_or_new_more few many up start files v
