use Rattle.change_outcome.proofs.ChangeNames.{change_names}
use Rattle.change_outcome.proofs.laws.the_names_of_a_change_may_be_changed.Goals as goal

pub returns : goal.returns
returns c = change_names
