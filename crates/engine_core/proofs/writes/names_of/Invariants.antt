use Rattle.std.proofs.Common.{◌≡◌, map, take}
use Rattle.engine_core.specs.Writing.{name_of_write}
use Rattle.engine_core.proofs.writes.names_of.Given as goal

abbrev pub invariant-loop-write : goal.invariant-loop-write
invariant-loop-write l = l.names ≡ map name_of_write (take l.write-index l.writes)
