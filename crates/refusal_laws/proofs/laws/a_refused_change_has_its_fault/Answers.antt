use Rattle.refusal_laws.proofs.ChangeFaults.{change_fault}
use Rattle.refusal_laws.proofs.laws.a_refused_change_has_its_fault.Goals as goal

pub returns : goal.returns
returns c = change_fault
