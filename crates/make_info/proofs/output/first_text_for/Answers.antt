use Rattle.make_info.proofs.Left.{value_here, value_not_here}
use Rattle.make_info.proofs.output.first_text_for.Goals as goal

pub returns-then-is_some : goal.returns-then-is_some
returns-then-is_some c =
    value_here c.args.field c.args.values.now c.loop-i.i c.get.result.now c.option_text_for_field-found.result _ c.get.ensures c.option_text_for_field-found.ensures c.if-is_some.ensures c.loop-i.invariant

pub loop-i-preserved : goal.loop-i-preserved
loop-i-preserved c =
    value_not_here c.args.field c.args.values.now c.loop-i.i c.get.result.now c.option_text_for_field-found.result _ c.get.ensures c.option_text_for_field-found.ensures c.if-is_some.ensures c.loop-i.invariant
