-- The claims so far are the first ones of their paths.
use Rattle.std.proofs.Common.{map, take}
use Rattle.path_claims.specs.Seen.{claim_seen}
use Rattle.path_claim_lists.specs.Once.{HasFirstClaimOfEachPath}
use Rattle.path_claim_lists.proofs.claims.has_one_claim_of_each_path.Given as goal

abbrev pub invariant-loop-i : goal.invariant-loop-i
invariant-loop-i l = HasFirstClaimOfEachPath (take l.i (map claim_seen l.claims)) (take l.i (map claim_seen l.claims))
