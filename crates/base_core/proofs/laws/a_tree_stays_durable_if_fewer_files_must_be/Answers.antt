use Rattle.base_core.proofs.Undone.{order_weaker}
use Rattle.base_core.proofs.laws.a_tree_stays_durable_if_fewer_files_must_be.Goals as goal

pub returns : goal.returns
returns g c = λ more fewer. order_weaker (g.D.Durability.depends_on more) (g.D.Durability.depends_on fewer)
