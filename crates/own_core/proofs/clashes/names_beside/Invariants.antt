-- The names beside the claims that were passed.
use Rattle.std.proofs.Common.{◌≡◌, map, take}
use Rattle.own_core.specs.Fate.{apk_new_name}
use Rattle.path_claim_lists.specs.path_claims.Seen.{claim_seen}
use Rattle.own_core.proofs.clashes.names_beside.Given as goal

abbrev pub invariant-loop-claim : goal.invariant-loop-claim
invariant-loop-claim l = l.names ≡ map (λ c. apk_new_name c.path) (map claim_seen (take l.claim-index l.asides))
