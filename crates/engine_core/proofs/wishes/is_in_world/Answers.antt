use Rattle.std.proofs.Common.{arith, sym, ◌∙◌}
use Rattle.engine_core.proofs.Known.{name_earlier, name_here, name_later, name_nowhere}
use Rattle.engine_core.proofs.wishes.is_in_world.Goals as goal

pub halves-preserved-in-Less : goal.halves-preserved-in-Less
halves-preserved-in-Less c =
    name_later c.args.name.now c.args.world.now c.len-high.ensures.world _ _ c.entry.ensures c.halves.low c.halves.high c.halves.invariant (omega (arith, c.halves-test.true)) (sym c.cmp.ensures ∙ c.in-Less.is)

pub returns-in-Equal : goal.returns-in-Equal
returns-in-Equal c = name_here c.args.name.now c.args.world.now c.len-high.ensures.world _ _ c.entry.ensures (sym c.cmp.ensures ∙ c.in-Equal.is)

pub halves-preserved : goal.halves-preserved
halves-preserved c =
    name_earlier c.args.name.now c.args.world.now c.len-high.ensures.world _ _ c.entry.ensures c.halves.low c.halves.high c.halves.invariant (omega arith) (sym c.cmp.ensures ∙ c.in-Greater.is)

pub returns : goal.returns
returns c = name_nowhere c.args.name.now c.args.world.now c.halves.low c.halves.high c.halves.invariant (omega (arith, c.halves-test.false))
