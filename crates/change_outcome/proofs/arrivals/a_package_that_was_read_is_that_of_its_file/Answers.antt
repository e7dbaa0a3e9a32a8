use Rattle.change_outcome.proofs.ReadMembers.{file_of_package, package_comes}
use Rattle.change_outcome.proofs.arrivals.a_package_that_was_read_is_that_of_its_file.Goals as goal

pub returns : goal.returns
returns c = record { file = file_of_package; comes = package_comes }
