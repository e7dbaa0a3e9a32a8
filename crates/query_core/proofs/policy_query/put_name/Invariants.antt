use Rattle.std.proofs.Common.{◌++◌, drop}
use Rattle.std.specs.List.{flat_map}
use Rattle.report_core.specs.QueryReports.{policy_heading}
use Rattle.query_core.specs.VersionPlaces.{version_lines}
use Rattle.query_core.proofs.Appended.{IsSoFar}
use Rattle.query_core.proofs.policy_query.put_name.Given as goal

abbrev pub invariant-loop-i : goal.invariant-loop-i
invariant-loop-i g l = IsSoFar (g.O.ReportOut.holds) l.fn.out l.out (flat_map (version_lines l.repositories) (drop l.i l.versions)) (policy_heading l.name ++ flat_map (version_lines l.repositories) l.versions)
