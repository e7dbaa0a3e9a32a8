use Rattle.std.proofs.Common.{drop}
use Rattle.query_core.specs.VersionPlaces.{distinct_repository_lines}
use Rattle.query_core.proofs.Appended.{IsSoFar}
use Rattle.query_core.proofs.policy_query.put_repositories.Given as goal

abbrev pub invariant-loop-i : goal.invariant-loop-i
invariant-loop-i g l = IsSoFar (g.O.ReportOut.holds) l.initial.out l.out (distinct_repository_lines l.repositories l.last (drop l.i l.numbers)) (distinct_repository_lines l.repositories 0 l.numbers)
