use Rattle.gen_core.proofs.TextLines.{prefix_left}
use Rattle.gen_core.proofs.cursor.without_prefix.Goals as goal

pub returns-in_default : goal.returns-in_default
returns-in_default c = prefix_left c.args.prefix.now c.args.line.now c.loop-byte.rest.now c.loop-byte.byte-index c.loop-byte-test.true c.in_default.ensures.cases c.loop-byte.invariant
