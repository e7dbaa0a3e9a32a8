use Rattle.make_info.proofs.OutputFacts.{package_output_there}
use Rattle.make_info.proofs.output.a_package_with_information_has_an_output.Goals as goal

pub returns : goal.returns
returns c = package_output_there
