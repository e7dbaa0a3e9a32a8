use Rattle.std.proofs.Common.{◌≡◌, ◌++◌, drop}
use Rattle.dep_core.specs.World.{world_text}
use Rattle.dep_core.proofs.world.World.text.Given as goal

abbrev pub invariant-loop-entry : goal.invariant-loop-entry
invariant-loop-entry l = l.text.items ++ world_text (drop l.entry-index l.entry-items) ≡ world_text l.entry-items
