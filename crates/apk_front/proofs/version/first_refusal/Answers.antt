use Rattle.std.proofs.Common.{sym, ap, ◌∙◌}
use Rattle.version_core.specs.Order.{is_version}
use Rattle.apk_front.proofs.Operands.{valid_more, invalid_here}
use Rattle.apk_front.proofs.version.first_refusal.Goals as goal

pub returns-then-is_none : goal.returns-then-is_none
returns-then-is_none c = sym (c.loop-i.invariant ∙ invalid_here c.args.operands.now c.loop-i.i c.get-operand.result.now c.get-operand.ensures (ap is_version (sym c.as_bytes.ensures) ∙ (sym c.read.ensures.when ∙ c.if-is_none.ensures)))

pub loop-i-preserved : goal.loop-i-preserved
loop-i-preserved c = c.loop-i.invariant ∙ valid_more c.args.operands.now c.loop-i.i c.get-operand.result.now c.get-operand.ensures (ap is_version (sym c.as_bytes.ensures) ∙ (sym c.read.ensures.when ∙ c.if-is_none.ensures))
