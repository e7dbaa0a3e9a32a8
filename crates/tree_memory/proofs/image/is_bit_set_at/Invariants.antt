use Rattle.std.proofs.Common.{◌≡◌}
use Rattle.tree_memory.specs.Images.{is_bit_set_at}
use Rattle.tree_memory.proofs.image.is_bit_set_at.Given as goal

-- the digit at the place that is left is the one that is looked for
abbrev pub invariant-loop-places : goal.invariant-loop-places
invariant-loop-places l = is_bit_set_at l.left l.places ≡ is_bit_set_at l.n l.place

abbrev pub decreases-loop-places : goal.decreases-loop-places
decreases-loop-places l = l.places
