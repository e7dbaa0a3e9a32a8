use Rattle.own_core.proofs.Untouched.{users_file_is_spared}
use Rattle.own_core.proofs.laws.configuration_that_the_user_changed_is_kept.Goals as goal

pub returns : goal.returns
returns c = users_file_is_spared
