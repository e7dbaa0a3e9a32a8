use Rattle.std.proofs.lemmas.Cmp.{tied_itself}
use Rattle.version_core.proofs.OrderLaws.{version_cmp-total}
use Rattle.version_core.proofs.laws.order_is_reflexive.Goals as goal

pub returns : goal.returns
returns c = λ version. tied_itself version_cmp-total version
