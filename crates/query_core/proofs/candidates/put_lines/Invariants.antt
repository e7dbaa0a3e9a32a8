use Rattle.std.proofs.Common.{drop}
use Rattle.query_core.proofs.Appended.{IsSoFar}
use Rattle.query_core.proofs.LineParts.{lines_of}
use Rattle.query_core.proofs.candidates.put_lines.Given as goal

abbrev pub invariant-loop-i : goal.invariant-loop-i
invariant-loop-i g l = IsSoFar (g.O.ReportOut.holds) l.initial.out l.out (lines_of l.form l.pool.candidates (drop l.i l.rankings)) (lines_of l.form l.pool.candidates l.rankings)
