use Rattle.base_core.proofs.Left.{order_lasts}
use Rattle.base_core.proofs.laws.a_crash_in_order_keeps_the_files_of_a_durable_tree.Goals as goal

pub returns : goal.returns
returns g c = λ ignored. order_lasts (g.D.Durability.depends_on ignored)
