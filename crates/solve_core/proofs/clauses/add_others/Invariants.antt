use Rattle.std.proofs.Common.{take}
use Rattle.search_choices.specs.search_tables.Selection.{AreAllMembersOf}
use Rattle.solve_core.specs.Clauses.{AreAllMembersOfOr}
use Rattle.solve_core.proofs.clauses.add_others.Given as goal

abbrev pub invariant-loop-id : goal.invariant-loop-id
invariant-loop-id l = record {
  old : AreAllMembersOf l.initial.list.items l.list.items;
  new : AreAllMembersOfOr (take l.id-index l.ids) l.but l.list.items;
}
