use Rattle.std.proofs.Common.{◌++◌, take}
use Rattle.search_tables.specs.Reasons.{HasSameMembers}
use Rattle.search_tables.proofs.candidate_set.CandidateSet.add_all.Given as goal

abbrev pub invariant-loop-id : goal.invariant-loop-id
invariant-loop-id l = HasSameMembers l.self (l.initial.self ++ take l.id-index l.ids)
