use Rattle.std.proofs.Common.{take}
use Rattle.search_choices.specs.search_tables.Selection.{AreAllMembersOf}
use Rattle.search_choices.specs.Choices.{choices_of}
use Rattle.solve_core.proofs.clauses.are_choices.Given as goal

abbrev pub invariant-loop-member : goal.invariant-loop-member
invariant-loop-member l = AreAllMembersOf (take l.member-index l.members) (choices_of l.chosen)
