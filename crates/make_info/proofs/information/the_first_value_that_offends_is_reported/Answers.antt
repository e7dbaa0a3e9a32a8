use Rattle.make_info.proofs.FirstOffence.{first_is, none_is}
use Rattle.make_info.proofs.information.the_first_value_that_offends_is_reported.Goals as goal

pub returns : goal.returns
returns c = record { offends = first_is; allowed = none_is }
