use Rattle.std.proofs.Common.{◌∙◌, ◌++◌, [], ap}
use Rattle.std.specs.Prelude.{if◌then◌else◌}
use Rattle.report_core.specs.QueryReports.{policy_database_line, policy_version_heading}
use Rattle.query_core.specs.VersionPlaces.{distinct_repository_lines, version_lines}
use Rattle.query_core.proofs.Appended.{appends_both, ends_with}
use Rattle.query_core.proofs.policy_query.put_version.Goals as goal

pub returns : goal.returns
returns g c =
    let repositories = c.args.repositories.now in
    let database = if c.version.inside.is_installed then policy_database_line else [] in
    ends_with (g.O.ReportOut.holds) _ _ _ _ _ _ _
    ((λ j. policy_version_heading (c.printed_version.ensures j) ++ database ++ distinct_repository_lines repositories 0 (c.deref.ensures.value j)) ∙ ap (version_lines repositories) c.version.view_is)
    (appends_both (g.O.ReportOut.holds) _ _ _ _ _ c.in_ok-put_version_heading.ensures c.in_ok-put_database.ensures) c.put_repositories.ensures
