use Rattle.base_core.proofs.Undone.{crash_in_order}
use Rattle.base_core.proofs.laws.a_crash_leaves_a_durable_tree.Goals as goal

pub returns : goal.returns
returns g c = λ ignored v w crash. crash_in_order v w crash (g.D.Durability.depends_on ignored)
