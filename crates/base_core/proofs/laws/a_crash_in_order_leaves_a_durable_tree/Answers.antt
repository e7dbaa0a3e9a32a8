use Rattle.base_core.proofs.Left.{crash_durable}
use Rattle.base_core.proofs.laws.a_crash_in_order_leaves_a_durable_tree.Goals as goal

pub returns : goal.returns
returns g c = λ ignored. crash_durable (g.D.Durability.depends_on ignored)
