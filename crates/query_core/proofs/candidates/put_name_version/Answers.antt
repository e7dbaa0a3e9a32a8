use Rattle.std.proofs.Common.{◌≡◌, ◌∙◌, ◌++◌, ap, codes}
use Rattle.report_core.specs.Reports.{name_dash_version}
use Rattle.query_core.specs.Order.{printed_version}
use Rattle.query_core.proofs.Appended.{appends_both, ends_with}
use Rattle.query_core.proofs.candidates.put_name_version.Goals as goal

pub returns : goal.returns
returns g c =
    let holds = g.O.ReportOut.holds in
    let is : (c.name.result.now ++ codes "-") ++ c.printed_version.result.now ≡ name_dash_version c.args.details.now.name (printed_version c.args.details.now.version) =
    (λ j. (c.name.ensures j ++ codes "-") ++ (c.printed_version.ensures ∙ ap printed_version c.version.ensures) j) in
    ends_with holds _ _ _ _ _ _ _ is (appends_both holds _ _ _ _ _ c.in_ok-put.ensures c.in_ok-put-2.ensures) c.put-3.ensures
