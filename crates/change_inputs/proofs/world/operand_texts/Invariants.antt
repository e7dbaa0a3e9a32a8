use Rattle.std.proofs.Common.{◌≡◌, map, take}
use Rattle.command_core.specs.declared.operands.Operand.{Operand}
use Rattle.change_inputs.proofs.world.operand_texts.Given as goal

abbrev pub invariant-loop-i : goal.invariant-loop-i
invariant-loop-i l = l.texts ≡ map (λ (o : Operand). o.text) (take l.i l.operands)
