use Rattle.std.proofs.Common.{◌≡◌, drop}
use Rattle.command_core.specs.Operands.{place_of_first_refused_operand}
use Rattle.command_core.proofs.operands.OperandRule.place_of_first_refused_operand.Given as goal

-- the first that is refused is among those that are left
abbrev pub invariant-loop-i : goal.invariant-loop-i
invariant-loop-i l = place_of_first_refused_operand l.self 0 l.operands ≡ place_of_first_refused_operand l.self l.i (drop l.i l.operands)
