use Rattle.definition_laws.proofs.outcomes.DemoLine.{number_read}
use Rattle.definition_laws.proofs.outcomes.demo.demo_makes_as_many_packages_as_its_operand_says.Goals as goal

pub returns : goal.returns
returns c = number_read
