use Rattle.refusal_laws.proofs.InfoFaults.{info_fault, info_late, info_tells}
use Rattle.refusal_laws.proofs.laws.a_refused_info_has_its_fault.Goals as goal

pub returns-clause-fault : goal.returns-clause-fault
returns-clause-fault c = info_fault

pub returns-clause-following_refusal : goal.returns-clause-following_refusal
returns-clause-following_refusal c = info_late

pub returns-clause-told : goal.returns-clause-told
returns-clause-told c = info_tells
