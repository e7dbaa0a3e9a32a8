use Rattle.std.proofs.Common.{take}
use Rattle.search_choices.specs.Choices.{choices_of}
use Rattle.solve_core.specs.Clauses.{AreAllMembersOfOr}
use Rattle.solve_core.proofs.clauses.are_others_choices.Given as goal

abbrev pub invariant-loop-member : goal.invariant-loop-member
invariant-loop-member l = AreAllMembersOfOr (take l.member-index l.members) l.id (choices_of l.chosen)
