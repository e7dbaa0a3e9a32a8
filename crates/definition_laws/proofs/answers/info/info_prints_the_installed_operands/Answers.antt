use Rattle.definition_laws.proofs.answers.InfoSteps.{installed_operands}
use Rattle.definition_laws.proofs.answers.info.info_prints_the_installed_operands.Goals as goal

pub returns : goal.returns
returns c = installed_operands
