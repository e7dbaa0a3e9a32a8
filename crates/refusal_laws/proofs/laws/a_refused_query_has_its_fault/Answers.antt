use Rattle.refusal_laws.proofs.ReportFaults.{query_fault}
use Rattle.refusal_laws.proofs.laws.a_refused_query_has_its_fault.Goals as goal

pub returns : goal.returns
returns c = λ command read refusal. query_fault command read refusal
