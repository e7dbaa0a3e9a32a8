use Rattle.std.specs.Prelude.{Ok}
use Rattle.change_inputs.proofs.Handed.{handed_on}
use Rattle.change_inputs.specs.Inputs.{database_for}
use Rattle.change_inputs.specs.Seen.{installed_seen}
use Rattle.tell_core.specs.Info.{info_of}
use Rattle.tell_core.proofs.ReportSteps.{report_read, report_unread}
use Rattle.tell_core.proofs.info.report_info.Goals as goal

pub returns-in_err-installed-clause-told : goal.returns-in_err-installed-clause-told
returns-in_err-installed-clause-told g c =
    report_unread installed_seen (database_for c.args.command.now) _ c.from_residual.result (λ read database. info_of c.args.command.now database.packages) _ c.from_residual.ensures.1 c.in_err-installed.ensures.found

pub returns-in_err-done-clause-told : goal.returns-in_err-done-clause-told
returns-in_err-done-clause-told g c =
    report_read installed_seen (database_for c.args.command.now) _ c.from_residual-in_err-done.result (λ database. info_of c.args.command.now database.packages) c.in_ok-installed.installed c.in_ok-installed.ensures.found
    (handed_on (λ done. done) (info_of c.args.command.now (installed_seen c.in_ok-installed.installed).packages) c.from_residual-in_err-done.result _ c.from_residual-in_err-done.ensures.1 c.in_err-done.ensures)

pub returns-clause-told : goal.returns-clause-told
returns-clause-told g c =
    report_read installed_seen (database_for c.args.command.now) _ (Ok c.in_ok-done.done) (λ database. info_of c.args.command.now database.packages) c.in_ok-installed.installed c.in_ok-installed.ensures.found c.in_ok-done.ensures
