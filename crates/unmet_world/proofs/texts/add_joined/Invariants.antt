-- The texts so far are added, with commas between them.
use Rattle.std.proofs.Common.{◌≡◌, ◌++◌, take}
use Rattle.unmet_world.specs.Lines.{joined_texts}
use Rattle.unmet_world.proofs.texts.add_joined.Given as goal

abbrev pub invariant-loop-i : goal.invariant-loop-i
invariant-loop-i l = l.line.items ≡ l.initial.line.items ++ joined_texts (take l.i l.texts)
