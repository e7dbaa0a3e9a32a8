use Rattle.std.proofs.Common.{◌≡◌, ◌∙◌, ap, append_assoc, codes, refl, sym, arith}
use Rattle.std.specs.Prelude.{Some, slice_get}
use Rattle.std.specs.List.{flat_map}
use Rattle.pool_core.proofs.candidate_core.Steps.{get_at}
use Rattle.query_core.specs.VersionPlaces.{VersionPlaces, version_lines}
use Rattle.report_core.specs.QueryReports.{policy_heading}
use Rattle.query_core.proofs.Appended.{appends_both, appends_same, so_far_all, so_far_more}
use Rattle.query_core.proofs.LineParts.{nothing_left, versions_left}
use Rattle.query_core.proofs.policy_query.put_name.Goals as goal

pub loop-i-init : goal.loop-i-init
loop-i-init g c = record {
  bytes = policy_heading c.args.name.now;
  put = appends_same (g.O.ReportOut.holds) _ _ _ _ (sym (append_assoc c.args.name.now (codes " policy:") (codes "\n"))) (appends_both (g.O.ReportOut.holds) _ _ _ _ _ c.in_ok-put.ensures c.in_ok-put-2.ensures);
  rest = refl;
}

pub loop-i-preserved : goal.loop-i-preserved
loop-i-preserved g c =
    let v : VersionPlaces = c.index-versions-i.result in
    let at : slice_get c.args.versions.now c.loop-i.i ≡ Some v = get_at c.args.versions.now c.loop-i.i v (omega arith) ∙ ap Some (sym c.index-versions-i.is) in
    so_far_more (g.O.ReportOut.holds) _ _ _ _ _ _ _ (versions_left c.args.repositories.now c.args.versions.now c.loop-i.i v at) c.in_ok-put_version.ensures c.loop-i.invariant

pub returns : goal.returns
returns g c = so_far_all (g.O.ReportOut.holds) _ _ _ _ (ap (flat_map (version_lines c.args.repositories.now)) (nothing_left c.args.versions.now c.loop-i.i (omega arith))) c.loop-i.invariant
