-- No entry so far has the name.
use Rattle.std.proofs.Common.{◌≡◌, take}
use Rattle.std.specs.Prelude.{None}
use Rattle.std.specs.List.{find}
use Rattle.unmet_world.specs.Lines.{is_named}
use Rattle.unmet_world.proofs.texts.entry_named.Given as goal

abbrev pub invariant-loop-i : goal.invariant-loop-i
invariant-loop-i l = find (is_named l.name) (take l.i l.world) ≡ None
