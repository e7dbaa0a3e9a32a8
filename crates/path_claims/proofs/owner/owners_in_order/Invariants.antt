-- The claims passed have their owners, and the last of them the one that is at hand.
use Rattle.std.proofs.Common.{◌≡◌, ℕ, ◌+◌, Some, map, take}
use Rattle.std.specs.Prelude.{slice_get}
use Rattle.path_claims.specs.Claims.{PathClaim, owner_among}
use Rattle.path_claims.specs.Seen.{claim_seen}
use Rattle.path_claims.proofs.owner.owners_in_order.Given as goal

abbrev pub invariant-loop-i : goal.invariant-loop-i
invariant-loop-i g l =
    (l.owners.items ≡ map (λ c. owner_among (g.C.Contest.beats l.contest) (map claim_seen l.claims) c.path) (take l.i (map claim_seen l.claims)))
    × ((j : ℕ) (c : PathClaim) → j + 1 ≡ l.i → slice_get (map claim_seen l.claims) j ≡ Some c
    → l.owner ≡ owner_among (g.C.Contest.beats l.contest) (map claim_seen l.claims) c.path)
