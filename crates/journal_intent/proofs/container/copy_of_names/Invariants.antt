use Rattle.std.proofs.Common.{◌≡◌, take}
use Rattle.journal_intent.proofs.container.copy_of_names.Given as goal

abbrev pub invariant-loop-i : goal.invariant-loop-i
invariant-loop-i l = l.copy ≡ take l.i l.names
