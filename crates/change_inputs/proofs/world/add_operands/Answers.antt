use Rattle.std.proofs.Common.{refl, arith}
use Rattle.change_inputs.proofs.WorldSteps.{added_all, added_more}
use Rattle.change_inputs.proofs.world.add_operands.Goals as goal

pub loop-i-init : goal.loop-i-init
loop-i-init c = refl

pub loop-i-preserved : goal.loop-i-preserved
loop-i-preserved c = added_more c.args.operands.now c.loop-i.i _ _ _ _ c.get.ensures c.in_ok-add_operand.ensures c.loop-i.invariant

pub returns : goal.returns
returns c = added_all c.args.operands.now c.loop-i.i _ _ (omega arith) c.loop-i.invariant
