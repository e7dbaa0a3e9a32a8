-- The walk from here on ends as the whole walk.
use Rattle.std.proofs.Common.{◌≡◌, drop, map}
use Rattle.path_claims.specs.LeftOver.{last_unbeaten_member}
use Rattle.path_claims.proofs.contest.last_unbeaten_member.Given as goal

abbrev pub invariant-loop-claim : goal.invariant-loop-claim
invariant-loop-claim g l =
    last_unbeaten_member (g.C.Contest.beats l.contest) l.left (map (λ c. c.member) (drop l.claim-index l.claims))
    ≡ last_unbeaten_member (g.C.Contest.beats l.contest) l.first (map (λ c. c.member) l.claims)
