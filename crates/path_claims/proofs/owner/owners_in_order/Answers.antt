use Rattle.std.proofs.Common.{ℕ, Option, subst, sym, ◌<◌, length, map}
use Rattle.path_claims.specs.Claims.{PathClaim, owner_among}
use Rattle.path_claims.specs.Seen.{claim_seen}
use Rattle.path_claims.proofs.Owned.{owner_passed, owners_more}
use Rattle.path_claims.proofs.Places.{map_len}
use Rattle.path_claims.proofs.owner.owners_in_order.Goals as goal

pub loop-i-preserved : goal.loop-i-preserved
loop-i-preserved g c =
    let f : PathClaim → Option ℕ = λ d. owner_among (g.C.Contest.beats c.args.contest.now) (map claim_seen c.args.claims.now) d.path in
    let l : c.loop-i.i < length (map claim_seen c.args.claims.now) = subst (λ n. c.loop-i.i < n) (sym (map_len claim_seen c.args.claims.now)) c.loop-i-test.true in (
      owners_more f (map claim_seen c.args.claims.now) c.loop-i.i c.owner_at-owner.result c.loop-i.owners.items _ l c.owner_at-owner.ensures c.loop-i.invariant.0 c.in_ok-push.ensures.items,
      owner_passed f (map claim_seen c.args.claims.now) c.loop-i.i c.owner_at-owner.result c.owner_at-owner.ensures,
    )
