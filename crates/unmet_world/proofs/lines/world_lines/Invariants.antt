-- The lines of the entries so far.
use Rattle.std.proofs.Common.{◌≡◌, take}
use Rattle.unmet_world.specs.Lines.{world_lines}
use Rattle.unmet_world.proofs.lines.world_lines.Given as goal

abbrev pub invariant-loop-i : goal.invariant-loop-i
invariant-loop-i l = l.lines.items ≡ world_lines l.sources.listed.now (take l.i l.sources.world.now)
