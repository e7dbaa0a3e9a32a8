-- The paths of the claims so far that come stand behind the others.
use Rattle.std.proofs.Common.{◌≡◌, ◌++◌, map, take}
use Rattle.std.specs.List.{filter}
use Rattle.path_claim_lists.specs.adb_fields.JoinedPath.{joined_path}
use Rattle.file_owners.specs.db_core.Seen.{members_of}
use Rattle.path_claim_lists.specs.path_claims.Seen.{claim_seen}
use Rattle.own_core.specs.ClaimEntries.{is_added_at}
use Rattle.own_core.proofs.clashes.add_coming.Given as goal

abbrev pub invariant-loop-claim : goal.invariant-loop-claim
invariant-loop-claim l =
    map joined_path l.paths.items ≡ map joined_path l.fn.paths.items ++ map (λ c. c.path) (filter (λ c. is_added_at (members_of l.members) c.member) (take l.claim-index (map claim_seen l.claims)))
