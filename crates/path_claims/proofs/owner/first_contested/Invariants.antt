-- The claims passed have owners.
use Rattle.std.proofs.Common.{◌≡◌, ℕ, ◌<◌, Some, false, map}
use Rattle.std.specs.Prelude.{is_none, slice_get}
use Rattle.path_claims.specs.Claims.{PathClaim, owner_among}
use Rattle.path_claims.specs.Seen.{claim_seen}
use Rattle.path_claims.proofs.owner.first_contested.Given as goal

abbrev pub invariant-loop-i : goal.invariant-loop-i
invariant-loop-i g l =
    (j : ℕ) (c : PathClaim) → j < l.i → slice_get (map claim_seen l.claims) j ≡ Some c
    → is_none (owner_among (g.C.Contest.beats l.contest) (map claim_seen l.claims) c.path) ≡ false
