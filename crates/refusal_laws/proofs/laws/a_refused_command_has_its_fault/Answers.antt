use Rattle.refusal_laws.proofs.CommandFaults.{command_fault}
use Rattle.refusal_laws.proofs.laws.a_refused_command_has_its_fault.Goals as goal

pub returns : goal.returns
returns c = λ command read files chosen clash refusal e choice clashes. command_fault command read chosen choice files clash refusal clashes e
