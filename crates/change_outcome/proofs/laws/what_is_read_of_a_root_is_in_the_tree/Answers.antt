use Rattle.change_outcome.proofs.ReadRoot.{root_read}
use Rattle.change_outcome.proofs.laws.what_is_read_of_a_root_is_in_the_tree.Goals as goal

pub returns : goal.returns
returns c = root_read
