use Rattle.change_inputs.proofs.Explained.{as_before}
use Rattle.change_inputs.specs.Answers.{AgreesUnlessDiskOrMemory}
use Rattle.change_inputs.specs.Inputs.{database_for}
use Rattle.change_inputs.specs.Seen.{installed_seen}
use Rattle.tell_core.proofs.AuditSteps.{audit_read}
use Rattle.tell_core.proofs.ReportSteps.{report_unread}
use Rattle.tell_core.specs.AuditResult.{audit_of}
use Rattle.tell_core.proofs.audit.report_audit.Goals as goal

pub returns-in_err-installed-clause-told : goal.returns-in_err-installed-clause-told
returns-in_err-installed-clause-told g c =
    report_unread installed_seen (database_for c.args.command.now) _ c.from_residual.result audit_of _ c.from_residual.ensures.1 c.in_err-installed.ensures.found

pub returns-clause-told : goal.returns-clause-told
returns-clause-told g c =
    audit_read c.audits_depend_on_their_own_reads.ensures _ c.args.command.now c.audit_installed.result c.in_ok-installed.installed c.in_ok-installed.ensures.found
    (as_before _ _ (λ read. AgreesUnlessDiskOrMemory (λ done. done) c.audit_installed.result (audit_of read (installed_seen c.in_ok-installed.installed))) c.in_ok-installed.ensures.tree.same c.audit_installed.ensures.told)
