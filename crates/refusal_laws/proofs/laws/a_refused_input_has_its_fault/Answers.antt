use Rattle.refusal_laws.proofs.InputFaults.{input_fault}
use Rattle.refusal_laws.proofs.ReadBefore.{read_before}
use Rattle.refusal_laws.proofs.laws.a_refused_input_has_its_fault.Goals as goal

pub returns-clause-fault : goal.returns-clause-fault
returns-clause-fault c = input_fault

pub returns-clause-order : goal.returns-clause-order
returns-clause-order c = read_before
