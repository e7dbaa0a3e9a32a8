use Rattle.std.proofs.Common.{◌∙◌, ◌++◌, ap}
use Rattle.own_core.specs.db_core.Seen.{packages_of}
use Rattle.report_core.specs.Reports.{change_lines}
use Rattle.package_changes.specs.Placed.{candidates_at}
use Rattle.package_changes.specs.Report.{selected_sum_line, simulated_report, lines_on_names_that_stay}
use Rattle.package_changes.proofs.ReportLines.{three_parts}
use Rattle.package_changes.proofs.report.simulated_report.Goals as goal

pub returns : goal.returns
unfolding simulated_report
returns c = λ again same.
    three_parts _ _ _ _ _ _ _ c.new-report.ensures c.in_ok-push_change_lines.ensures c.in_ok-push_stay_lines.ensures c.in_ok-push_selected_sum.ensures
    ∙ ap (λ z. change_lines z ++ lines_on_names_that_stay (packages_of c.args.db.now) (candidates_at c.args.pool.now c.args.trace.now) c.args.to_remove.now ++ selected_sum_line (candidates_at c.args.pool.now c.args.trace.now)) same
