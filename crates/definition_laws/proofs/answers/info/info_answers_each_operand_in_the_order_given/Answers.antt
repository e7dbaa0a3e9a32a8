use Rattle.definition_laws.proofs.answers.InfoSteps.{answer_of_operand, no_answer, no_operands}
use Rattle.definition_laws.proofs.answers.info.info_answers_each_operand_in_the_order_given.Goals as goal

pub returns : goal.returns
returns c = record { none = no_operands; found = answer_of_operand; absent = no_answer }
