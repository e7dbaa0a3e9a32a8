use Rattle.change_inputs.proofs.WorldSteps.{IsAdded}
use Rattle.change_inputs.proofs.world.add_operands.Given as goal

abbrev pub invariant-loop-i : goal.invariant-loop-i
invariant-loop-i l = IsAdded l.operands l.i l.initial.world l.world
