use Rattle.version_core.proofs.OrderLaws.{version_cmp-total}
use Rattle.version_core.proofs.laws.order_is_total.Goals as goal

pub returns : goal.returns
returns c = version_cmp-total
