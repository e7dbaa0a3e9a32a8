use Rattle.own_core.proofs.Untouched.{is_gone, removed_is}
use Rattle.own_core.proofs.laws.what_is_removed_was_listed_before.Goals as goal

pub returns-clause-listed : goal.returns-clause-listed
returns-clause-listed c = λ change files path removed. (((removed_is change files path removed).0).listed, ((removed_is change files path removed).0).unclaimed)

pub returns-clause-gone : goal.returns-clause-gone
returns-clause-gone c = is_gone
