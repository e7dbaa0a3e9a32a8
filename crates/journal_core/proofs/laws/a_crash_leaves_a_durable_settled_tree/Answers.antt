use Rattle.journal_core.proofs.Compose.{crash_quiet, crash_settled}
use Rattle.base_core.proofs.Undone.{crash_in_order, second_crash_same}
use Rattle.journal_core.specs.Recovery.{StateDependsOn}
use Rattle.journal_core.proofs.laws.a_crash_leaves_a_durable_settled_tree.Goals as goal

pub returns-clause-is_durable : goal.returns-clause-is_durable
returns-clause-is_durable c = λ ignored v w crash. crash_in_order v w crash (StateDependsOn ignored)

pub returns-clause-quiet : goal.returns-clause-quiet
returns-clause-quiet c = crash_quiet second_crash_same

pub returns-clause-settled : goal.returns-clause-settled
returns-clause-settled c = crash_settled second_crash_same
