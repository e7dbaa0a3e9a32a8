use Rattle.audit_core.proofs.Differing.{nothing_reported}
use Rattle.audit_core.proofs.laws.an_audit_reports_nothing_if_all_is_as_recorded.Goals as goal

pub returns : goal.returns
returns c = nothing_reported
