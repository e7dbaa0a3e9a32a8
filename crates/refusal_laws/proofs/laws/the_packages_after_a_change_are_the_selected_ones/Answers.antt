use Rattle.refusal_laws.proofs.PackagesAfter.{selected_ones}
use Rattle.refusal_laws.proofs.laws.the_packages_after_a_change_are_the_selected_ones.Goals as goal

pub returns : goal.returns
returns c = selected_ones
