use Rattle.std.proofs.Common.{ap, sym}
use Rattle.report_core.specs.QueryReports.{installed_mark}
use Rattle.query_core.proofs.Appended.{appends_nothing, appends_same, ends_same}
use Rattle.query_core.proofs.candidates.put_installed_mark.Goals as goal

pub returns-then-not-is_installed : goal.returns-then-not-is_installed
returns-then-not-is_installed g c = appends_same (g.O.ReportOut.holds) _ _ _ _ (ap installed_mark (sym c.if-not-is_installed.true)) (appends_nothing (g.O.ReportOut.holds) _)

pub returns : goal.returns
returns g c = ends_same (g.O.ReportOut.holds) _ _ _ _ _ (ap installed_mark (sym c.if-not-is_installed.false)) c.put.ensures
