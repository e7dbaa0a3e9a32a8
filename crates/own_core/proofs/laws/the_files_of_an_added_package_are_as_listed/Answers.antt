use Rattle.own_core.proofs.Brought.{brought_as_listed}
use Rattle.own_core.proofs.laws.the_files_of_an_added_package_are_as_listed.Goals as goal

pub returns : goal.returns
returns c = brought_as_listed
