use Rattle.base_core.proofs.Undone.{order_is_orderly}
use Rattle.base_core.proofs.laws.a_durable_tree_is_durable_in_order.Goals as goal

pub returns : goal.returns
returns g c = λ ignored. order_is_orderly (g.D.Durability.depends_on ignored)
