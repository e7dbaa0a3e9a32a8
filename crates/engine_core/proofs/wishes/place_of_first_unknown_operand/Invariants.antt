use Rattle.std.proofs.Common.{◌≡◌, drop}
use Rattle.change_report.specs.change_inputs.Seen.{inputs_seen}
use Rattle.engine_core.specs.Wishes.{place_of_first_unknown_operand, is_name_in_world_or_installed}
use Rattle.engine_core.proofs.wishes.place_of_first_unknown_operand.Given as goal

-- all so far are known: the rest decides
abbrev pub invariant-loop-i : goal.invariant-loop-i
invariant-loop-i l = place_of_first_unknown_operand (is_name_in_world_or_installed (inputs_seen l.loaded)) (drop l.i l.operands) ≡ place_of_first_unknown_operand (is_name_in_world_or_installed (inputs_seen l.loaded)) l.operands
