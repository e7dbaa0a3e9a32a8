use Rattle.std.proofs.Common.{◌∙◌, ap, map}
use Rattle.db_core.specs.Seen.{packages_of}
use Rattle.audit_core.specs.Seen.{record_seen}
use Rattle.audit_core.proofs.AuditSteps.{nothing_said, report_of_packages}
use Rattle.audit_core.proofs.Listings.{records_have_names}
use Rattle.audit_core.proofs.comparing.audit.Goals as goal

pub returns-in_err-records-clause-report : goal.returns-in_err-records-clause-report
returns-in_err-records-clause-report g c first = nothing_said _ c.from_residual.result _ _ c.from_residual.ensures.1

pub audit_records-requires : goal.audit_records-requires
audit_records-requires g c =
    records_have_names (packages_of c.args.db.now) (map record_seen c.deref.result.now) (ap (map record_seen) c.deref.ensures.value ∙ c.in_ok-records.ensures) c.listed_paths_are_names.ensures

pub returns-in_err-report-clause-report : goal.returns-in_err-report-clause-report
returns-in_err-report-clause-report g c first = nothing_said _ c.from_residual-in_err-report.result _ _ c.from_residual-in_err-report.ensures.1

pub returns-clause-report : goal.returns-clause-report
returns-clause-report g c first =
    report_of_packages _ first (packages_of c.args.db.now) (map record_seen c.deref.result.now) c.in_ok-report.report.items c.from_vec.result
    (ap (map record_seen) c.deref.ensures.value ∙ c.in_ok-records.ensures) c.from_vec.ensures (c.in_ok-report.ensures.report first)
