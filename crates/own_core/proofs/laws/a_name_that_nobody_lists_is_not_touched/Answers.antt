use Rattle.own_core.proofs.Untouched.{others_stay}
use Rattle.own_core.proofs.laws.a_name_that_nobody_lists_is_not_touched.Goals as goal

pub returns : goal.returns
returns c = others_stay
