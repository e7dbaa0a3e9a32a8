use Rattle.std.proofs.Common.{sym, ◌∙◌}
use Rattle.gen_core.proofs.TextLines.{level_none, level_some}
use Rattle.gen_core.proofs.cursor.without_levels.Goals as goal

pub returns-in-None : goal.returns-in-None
returns-in-None c = sym (level_none c.args.levels c.loop-level._level c.loop-level.inner.now c.loop-level-test.true c.in-None.ensures) ∙ c.loop-level.invariant

pub loop-level-preserved : goal.loop-level-preserved
loop-level-preserved c = sym (level_some c.args.levels c.loop-level._level c.loop-level.inner.now c.in-Some.deeper.now c.loop-level-test.true c.in-Some.ensures) ∙ c.loop-level.invariant
