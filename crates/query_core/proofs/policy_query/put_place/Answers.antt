use Rattle.std.proofs.Common.{refl}
use Rattle.query_core.proofs.Appended.{appends_both, ends_with}
use Rattle.query_core.proofs.policy_query.put_place.Goals as goal

pub returns : goal.returns
returns g c =
    ends_with (g.O.ReportOut.holds) _ _ _ _ _ _ _ refl
    (appends_both (g.O.ReportOut.holds) _ _ _ _ _ c.in_ok-put.ensures c.in_ok-put-2.ensures) c.put-3.ensures
