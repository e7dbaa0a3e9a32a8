use Rattle.std.proofs.Common.{◌++◌, take}
use Rattle.search_choices.specs.search_tables.Reasons.{HasSameMembers, other_members_of_reasons}
use Rattle.solve_core.proofs.search.store_reason.Given as goal

abbrev pub invariant-loop-ruled_out : goal.invariant-loop-ruled_out
invariant-loop-ruled_out l = HasSameMembers l.members (l.spent.2 ++ other_members_of_reasons (take l.ruled_out-index l.ruled_out-items))
