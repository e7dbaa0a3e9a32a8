use Rattle.base_core.proofs.Left.{durable_still}
use Rattle.base_core.proofs.laws.a_tree_stays_durable_in_order_if_fewer_files_must_be.Goals as goal

pub returns : goal.returns
returns g c = λ more fewer. durable_still (g.D.Durability.depends_on more) (g.D.Durability.depends_on fewer)
