use Rattle.refusal_laws.proofs.ReportFaults.{audit_fault}
use Rattle.refusal_laws.proofs.laws.a_refused_audit_has_its_fault.Goals as goal

pub returns : goal.returns
returns c = λ command read refusal. audit_fault command read refusal
