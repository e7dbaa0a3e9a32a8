use Rattle.definition_laws.proofs.answers.InfoSteps.{first_absent}
use Rattle.definition_laws.proofs.answers.info.info_refuses_the_first_absent_operand.Goals as goal

pub returns : goal.returns
returns c = first_absent
