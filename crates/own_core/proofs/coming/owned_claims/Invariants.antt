-- What is kept are the claims so far of owners that come.
use Rattle.std.proofs.Common.{◌≡◌, map, take}
use Rattle.std.specs.List.{filter}
use Rattle.file_owners.specs.db_core.Seen.{members_of}
use Rattle.path_claim_lists.specs.path_claims.Seen.{claim_seen}
use Rattle.own_core.specs.ClaimEntries.{is_of_added_owner}
use Rattle.own_core.proofs.coming.owned_claims.Given as goal

abbrev pub invariant-loop-i : goal.invariant-loop-i
invariant-loop-i l = map claim_seen l.owned.items ≡ filter (is_of_added_owner (members_of l.members)) (take l.i (map claim_seen l.claims))
