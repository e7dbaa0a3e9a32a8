use Rattle.std.proofs.Common.{◌≡◌, false, take}
use Rattle.std.specs.List.{list_any}
use Rattle.command_core.specs.declared.operands.Operand.{Operand}
use Rattle.star_patterns.specs.Patterns.{matches_some_part}
use Rattle.query_core.proofs.search_query.is_part_of_name_matched_by_some_pattern.Given as goal

abbrev pub invariant-loop-i : goal.invariant-loop-i
invariant-loop-i l = list_any (λ (o : Operand). matches_some_part o.text l.name) (take l.i l.patterns) ≡ false
