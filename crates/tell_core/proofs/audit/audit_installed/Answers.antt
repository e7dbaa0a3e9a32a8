use Rattle.change_inputs.specs.Seen.{installed_seen}
use Rattle.change_inputs.specs.declared.root.Refused.TheVariants.{Disk, Memory}
use Rattle.std.proofs.Common.{Err, refl}
use Rattle.tell_core.proofs.AuditSteps.{audit_failed, audit_made}
use Rattle.tell_core.specs.AuditResult.{first_audit_read_number}
use Rattle.tell_core.proofs.audit.audit_installed.Goals as goal

pub returns-in_err-db-clause-told : goal.returns-in_err-db-clause-told
returns-in_err-db-clause-told g c = audit_failed _ (installed_seen c.args.installed.now) c.from_residual.result Memory c.from_residual.ensures.1 tt

pub returns-in-Ok-clause-told : goal.returns-in-Ok-clause-told
returns-in-Ok-clause-told g c = audit_made _ (installed_seen c.args.installed.now) _ c.in-Ok.report c.in_ok-db.ensures (c.in-Ok.ensures.report first_audit_read_number)

pub returns-in-Err-Disk-clause-told : goal.returns-in-Err-Disk-clause-told
returns-in-Err-Disk-clause-told g c = audit_failed _ (installed_seen c.args.installed.now) (Err Disk) Disk refl tt

pub returns-clause-told : goal.returns-clause-told
returns-clause-told g c = audit_failed _ (installed_seen c.args.installed.now) (Err Memory) Memory refl tt
