use Rattle.change_inputs.proofs.WorldRest.{taken_out}
use Rattle.change_inputs.proofs.world.take_operands.Goals as goal

pub returns : goal.returns
returns c = taken_out c.args.operands.now _ _ _ _ c.in_ok-texts.ensures c.in_ok-names.ensures c.in_ok-rest.ensures
