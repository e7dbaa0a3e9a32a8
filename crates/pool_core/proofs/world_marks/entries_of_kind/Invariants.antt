use Rattle.std.proofs.Common.{◌≡◌, take, map}
use Rattle.dep_core.specs.Meets.{dependency}
use Rattle.pool_core.specs.World.{entries_of_kind}
use Rattle.pool_core.proofs.world_marks.entries_of_kind.Given as goal

abbrev pub invariant-loop-i : goal.invariant-loop-i
invariant-loop-i l = map dependency l.deps.items ≡ entries_of_kind l.kind (take l.i l.world)
