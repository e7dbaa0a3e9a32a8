use Rattle.change_outcome.proofs.ReadMembers.{all_read}
use Rattle.change_outcome.proofs.arrivals.packages_that_were_read_are_those_found.Goals as goal

pub returns : goal.returns
returns c = all_read
