use Rattle.own_core.proofs.LeftOver.{removed_unreserved}
use Rattle.own_core.proofs.laws.what_is_removed_is_not_reserved.Goals as goal

pub returns : goal.returns
returns c = removed_unreserved
