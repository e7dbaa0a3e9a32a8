use Rattle.std.proofs.Common.{sym}
use Rattle.query_core.proofs.Appended.{appends_both, appends_nothing, appends_same, ends_with}
use Rattle.query_core.proofs.LineParts.{between_none, between_some}
use Rattle.query_core.proofs.candidates.put_between.Goals as goal

pub returns-then-is_empty : goal.returns-then-is_empty
returns-then-is_empty g c =
    appends_same (g.O.ReportOut.holds) _ _ _ _ (between_none c.args.before.now c.args.text.now c.args.after.now (sym c.if-is_empty.ensures)) (appends_nothing (g.O.ReportOut.holds) _)

pub returns : goal.returns
returns g c =
    ends_with (g.O.ReportOut.holds) _ _ _ _ _ _ _ (between_some c.args.before.now c.args.text.now c.args.after.now (sym c.if-is_empty.ensures))
    (appends_both (g.O.ReportOut.holds) _ _ _ _ _ c.in_ok-put.ensures c.in_ok-put-2.ensures) c.put-3.ensures
