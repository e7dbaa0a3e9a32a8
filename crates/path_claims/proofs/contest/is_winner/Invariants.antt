-- The claims passed are beaten: the rest decides.
use Rattle.std.proofs.Common.{◌≡◌, drop, map}
use Rattle.path_claims.specs.Contest.{are_all_others_beaten_by}
use Rattle.path_claims.proofs.contest.is_winner.Given as goal

abbrev pub invariant-loop-claim : goal.invariant-loop-claim
invariant-loop-claim g l =
    are_all_others_beaten_by (g.C.Contest.beats l.contest) (map (λ c. c.member) (drop l.claim-index l.claims)) l.one
    ≡ are_all_others_beaten_by (g.C.Contest.beats l.contest) (map (λ c. c.member) l.claims) l.one
