use Rattle.tree_memory.proofs.Planned.{next-plan_after_calls}
use Rattle.tree_memory.proofs.calls.a_call_fails_where_it_is_planned.Goals as goal

pub returns : goal.returns
returns c = next-plan_after_calls
