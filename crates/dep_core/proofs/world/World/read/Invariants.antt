use Rattle.std.proofs.Common.{◌≡◌, ◌+◌, length, drop}
use Rattle.dep_core.specs.World.{lines_of, world_with_lines, world_of}
use Rattle.dep_core.proofs.world.World.read.Given as goal

abbrev pub invariant-loop-text : goal.invariant-loop-text
invariant-loop-text l =
    (l.line ≡ length l.yielded)
    × (world_with_lines l.found (l.line + 1) (drop (length l.yielded) (lines_of l.bytes)) ≡ world_of l.bytes)
