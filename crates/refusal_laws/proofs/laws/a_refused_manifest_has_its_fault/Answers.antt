use Rattle.refusal_laws.proofs.ReportFaults.{manifest_fault}
use Rattle.refusal_laws.proofs.laws.a_refused_manifest_has_its_fault.Goals as goal

pub returns : goal.returns
returns c = λ command read refusal. manifest_fault command read refusal
