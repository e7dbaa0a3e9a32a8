use Rattle.definition_laws.proofs.outcomes.MadeFiles.{input_first}
use Rattle.definition_laws.proofs.outcomes.make.a_fault_of_the_input_is_reported_before_a_reserved_output.Goals as goal

pub returns : goal.returns
returns c = input_first
