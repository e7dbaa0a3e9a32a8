use Rattle.std.proofs.Common.{[], Bool, List, ℕ, ap, sym}
use Rattle.std.specs.Prelude.{if◌then◌else◌}
use Rattle.report_core.specs.QueryReports.{policy_database_line}
use Rattle.query_core.proofs.Appended.{appends_nothing, appends_same, ends_same}
use Rattle.query_core.proofs.policy_query.put_database.Goals as goal

pub returns-then-not-is_installed : goal.returns-then-not-is_installed
returns-then-not-is_installed g c =
    let line : Bool → List ℕ = λ (b : Bool). if b then policy_database_line else [] in
    appends_same (g.O.ReportOut.holds) _ _ _ _ (ap line (sym c.if-not-is_installed.true)) (appends_nothing (g.O.ReportOut.holds) _)

pub returns : goal.returns
returns g c =
    let line : Bool → List ℕ = λ (b : Bool). if b then policy_database_line else [] in
    ends_same (g.O.ReportOut.holds) _ _ _ _ _ (ap line (sym c.if-not-is_installed.false)) c.put_place.ensures
