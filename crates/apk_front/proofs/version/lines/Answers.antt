use Rattle.apk_front.proofs.Operands.{invalid_more}
use Rattle.apk_front.proofs.version.lines.Goals as goal

pub loop-i-preserved : goal.loop-i-preserved
loop-i-preserved c = invalid_more c.args.operands.now c.loop-i.i c.get.result.now _ _ _ c.get.ensures c.as_bytes.ensures c.in_ok-add_line.ensures c.loop-i.invariant
