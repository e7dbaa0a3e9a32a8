use Rattle.base_core.proofs.Undone.{order_outlasts}
use Rattle.base_core.proofs.laws.a_crash_keeps_the_files_of_a_durable_tree.Goals as goal

pub returns : goal.returns
returns g c = λ ignored. order_outlasts (g.D.Durability.depends_on ignored)
