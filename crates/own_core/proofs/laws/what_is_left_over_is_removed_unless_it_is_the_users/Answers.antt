use Rattle.own_core.proofs.LeftOver.{kept_is_users, left_over_goes}
use Rattle.own_core.proofs.laws.what_is_left_over_is_removed_unless_it_is_the_users.Goals as goal

pub returns-clause-goes : goal.returns-clause-goes
returns-clause-goes c = left_over_goes

pub returns-clause-kept : goal.returns-clause-kept
returns-clause-kept c = kept_is_users
