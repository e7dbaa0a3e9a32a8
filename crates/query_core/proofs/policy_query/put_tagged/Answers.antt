use Rattle.std.proofs.Common.{refl}
use Rattle.query_core.proofs.Appended.{appends_both, ends_with}
use Rattle.query_core.proofs.policy_query.put_tagged.Goals as goal

pub returns : goal.returns
returns g c =
    let holds = g.O.ReportOut.holds in
    ends_with holds _ _ _ _ _ _ _ refl
    (appends_both holds _ _ _ _ _ (appends_both holds _ _ _ _ _ (appends_both holds _ _ _ _ _ c.in_ok-put.ensures c.in_ok-put-2.ensures) c.in_ok-put-3.ensures) c.in_ok-put-4.ensures) c.put-5.ensures
