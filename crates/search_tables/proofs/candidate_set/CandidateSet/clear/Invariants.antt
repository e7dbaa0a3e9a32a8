use Rattle.std.proofs.Common.{length}
use Rattle.search_tables.proofs.candidate_set.CandidateSet.clear.Given as goal

abbrev pub decreases-loop-self : goal.decreases-loop-self
decreases-loop-self l = length l.self
