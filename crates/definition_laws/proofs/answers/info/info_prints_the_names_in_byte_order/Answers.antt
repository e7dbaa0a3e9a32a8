use Rattle.definition_laws.proofs.answers.InfoSteps.{sorted_names}
use Rattle.definition_laws.proofs.answers.info.info_prints_the_names_in_byte_order.Goals as goal

pub returns : goal.returns
returns c = sorted_names
