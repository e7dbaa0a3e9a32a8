use Rattle.std.proofs.Common.{◌≡◌, ◌++◌, take}
use Rattle.std.specs.Prelude.{None}
use Rattle.search_tables.specs.Queue.{raised_deps}
use Rattle.search_tables.proofs.queue.queue_world.Given as goal

abbrev pub invariant-loop-i : goal.invariant-loop-i
invariant-loop-i l = l.queue.items ≡ l.initial.queue.items ++ raised_deps None (take l.i l.world)
