-- The options so far are ruled out, or the one that is kept.
use Rattle.std.proofs.Common.{◌++◌, take}
use Rattle.std.specs.Prelude.{option_to_list}
use Rattle.search_tables.specs.Selection.{AreAllMembersOf}
use Rattle.unmet_world.proofs.refutation.are_left.Given as goal

abbrev pub invariant-loop-i : goal.invariant-loop-i
invariant-loop-i l = AreAllMembersOf (take l.i l.options) (option_to_list l.kept ++ l.out)
