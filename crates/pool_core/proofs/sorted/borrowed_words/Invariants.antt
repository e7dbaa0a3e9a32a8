use Rattle.std.proofs.Common.{◌≡◌, map, take}
use Rattle.pool_core.proofs.sorted.borrowed_words.Given as goal

abbrev pub invariant-loop-i : goal.invariant-loop-i
invariant-loop-i l = map (λ w. w.now) l.borrowed.items ≡ take l.i l.words
