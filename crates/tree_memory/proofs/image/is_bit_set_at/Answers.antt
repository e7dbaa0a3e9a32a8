use Rattle.std.proofs.Common.{sym, arith, ◌∙◌}
use Rattle.tree_memory.proofs.Undoing.{digit_here, digit_behind}
use Rattle.tree_memory.proofs.image.is_bit_set_at.Goals as goal

pub loop-places-preserved : goal.loop-places-preserved
loop-places-preserved c = digit_behind c.loop-places.left c.loop-places.places (omega (arith, c.loop-places-test.true)) ∙ c.loop-places.invariant

pub returns : goal.returns
returns c = sym (digit_here c.loop-places.left c.loop-places.places (omega (arith, c.loop-places-test.false))) ∙ c.loop-places.invariant
