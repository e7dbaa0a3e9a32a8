use Rattle.std.specs.Prelude.{Ok}
use Rattle.change_inputs.proofs.Handed.{handed_on}
use Rattle.change_inputs.specs.Inputs.{inputs_of}
use Rattle.change_inputs.specs.Seen.{inputs_seen}
use Rattle.tell_core.proofs.ReportSteps.{report_read, report_unread}
use Rattle.tell_core.specs.QueryResult.{query_report_or_refusal}
use Rattle.tell_core.proofs.query.report_query.Goals as goal

pub returns-in_err-loaded-clause-told : goal.returns-in_err-loaded-clause-told
returns-in_err-loaded-clause-told g c =
    report_unread inputs_seen (inputs_of c.args.command.now) _ c.from_residual.result (λ read. query_report_or_refusal c.args.command.now) _ c.from_residual.ensures.1 c.in_err-loaded.ensures.found

pub returns-in_err-done-clause-told : goal.returns-in_err-done-clause-told
returns-in_err-done-clause-told g c =
    report_read inputs_seen (inputs_of c.args.command.now) _ c.from_residual-in_err-done.result (query_report_or_refusal c.args.command.now) c.in_ok-loaded.loaded c.in_ok-loaded.ensures.found
    (handed_on (λ done. done) (query_report_or_refusal c.args.command.now (inputs_seen c.in_ok-loaded.loaded)) c.from_residual-in_err-done.result _ c.from_residual-in_err-done.ensures.1 c.in_err-done.ensures)

pub returns-clause-told : goal.returns-clause-told
returns-clause-told g c =
    report_read inputs_seen (inputs_of c.args.command.now) _ (Ok c.in_ok-done.done) (query_report_or_refusal c.args.command.now) c.in_ok-loaded.loaded c.in_ok-loaded.ensures.found c.in_ok-done.ensures
