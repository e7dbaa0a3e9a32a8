-- The claims passed are beaten: the rest has the one that is found.
use Rattle.std.proofs.Common.{◌≡◌, drop, map}
use Rattle.std.specs.Prelude.{◌==◌, ◌||◌, not}
use Rattle.std.specs.List.{find}
use Rattle.path_claims.proofs.contest.first_with_unbeaten_rival.Given as goal

abbrev pub invariant-loop-claim : goal.invariant-loop-claim
invariant-loop-claim g l =
    find (λ y. not ((l.first == y) || g.C.Contest.beats l.contest l.first y)) (map (λ c. c.member) (drop l.claim-index l.claims))
    ≡ find (λ y. not ((l.first == y) || g.C.Contest.beats l.contest l.first y)) (map (λ c. c.member) l.claims)
