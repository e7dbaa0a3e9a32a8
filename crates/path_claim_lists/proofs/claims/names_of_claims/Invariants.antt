-- The names of the claims that were passed.
use Rattle.std.proofs.Common.{◌≡◌, map, take}
use Rattle.path_claims.specs.Seen.{claim_seen}
use Rattle.path_claim_lists.proofs.claims.names_of_claims.Given as goal

abbrev pub invariant-loop-claim : goal.invariant-loop-claim
invariant-loop-claim l = l.names ≡ map (λ c. c.path) (map claim_seen (take l.claim-index l.claims))
