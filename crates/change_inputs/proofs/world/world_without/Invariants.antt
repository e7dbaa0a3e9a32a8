use Rattle.change_inputs.proofs.WorldRest.{IsRestSoFar}
use Rattle.change_inputs.proofs.world.world_without.Given as goal

abbrev pub invariant-loop-i : goal.invariant-loop-i
invariant-loop-i l = IsRestSoFar l.names l.world l.i l.rest
