-- The claims passed are marked.
use Rattle.std.proofs.Common.{◌≡◌, ℕ, ◌<◌, Option, Some, length, map}
use Rattle.std.specs.Prelude.{slice_get}
use Rattle.path_claims.specs.Claims.{PathClaim, is_owning_member}
use Rattle.path_claims.specs.Seen.{claim_seen}
use Rattle.path_claims.proofs.owner.mark_owned.Given as goal

abbrev pub invariant-loop-i : goal.invariant-loop-i
invariant-loop-i l =
    (length l.flags ≡ length l.fn.flags)
    × ((j : ℕ) (c : PathClaim) (o : Option ℕ) → j < l.i → slice_get (map claim_seen l.claims) j ≡ Some c → slice_get l.owners j ≡ Some o
    → slice_get l.flags c.number ≡ Some (is_owning_member c.member o))
