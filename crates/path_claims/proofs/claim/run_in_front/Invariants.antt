-- What is passed has the path, and what is left goes on with the run.
use Rattle.std.proofs.Common.{◌≡◌, ◌≤◌, ◌-◌, ◌++◌, drop, take, length, map}
use Rattle.adb_fields.specs.JoinedPath.{joined_path}
use Rattle.path_claims.specs.Claims.{is_claim_of_path}
use Rattle.path_claims.specs.Runs.{passing_prefix}
use Rattle.path_claims.specs.Seen.{claim_seen}
use Rattle.path_claims.proofs.claim.run_in_front.Given as goal

abbrev pub invariant-loop-end : goal.invariant-loop-end
invariant-loop-end l =
    (l.end ≤ length l.claims)
    × (passing_prefix (is_claim_of_path (joined_path l.path)) (map claim_seen l.claims)
    ≡ take l.end (map claim_seen l.claims) ++ passing_prefix (is_claim_of_path (joined_path l.path)) (drop l.end (map claim_seen l.claims)))

abbrev pub decreases-loop-end : goal.decreases-loop-end
decreases-loop-end l = length l.claims - l.end
