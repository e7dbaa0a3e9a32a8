-- What is kept has the first claim of each path so far.
use Rattle.std.proofs.Common.{map, take}
use Rattle.path_claims.specs.Seen.{claim_seen}
use Rattle.path_claim_lists.specs.Once.{HasFirstClaimOfEachPath}
use Rattle.path_claim_lists.proofs.claims.first_claims.Given as goal

abbrev pub invariant-loop-i : goal.invariant-loop-i
invariant-loop-i l = HasFirstClaimOfEachPath (take l.i (map claim_seen l.claims)) (map claim_seen l.firsts.items)
