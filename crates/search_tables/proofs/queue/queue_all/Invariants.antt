use Rattle.std.proofs.Common.{◌≡◌, ◌++◌, take}
use Rattle.std.specs.Prelude.{Some}
use Rattle.search_tables.specs.Queue.{raised_deps}
use Rattle.search_tables.proofs.queue.queue_all.Given as goal

abbrev pub invariant-loop-i : goal.invariant-loop-i
invariant-loop-i l = l.queue.items ≡ l.initial.queue.items ++ raised_deps (Some l.by) (take l.i l.deps)
