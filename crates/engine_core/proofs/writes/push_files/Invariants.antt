use Rattle.change_report.specs.db_core.Seen.{members_of}
use Rattle.engine_core.specs.Writing.{package_at}
use Rattle.engine_core.proofs.Written.{Wrote}
use Rattle.engine_core.proofs.writes.push_files.Given as goal

abbrev pub invariant-loop-i : goal.invariant-loop-i
invariant-loop-i l = Wrote (members_of l.members) (package_at l.arrivals) l.plan l.fn.writes.items l.i l.writes.items
