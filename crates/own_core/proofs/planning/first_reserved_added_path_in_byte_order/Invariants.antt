-- None of the claims so far is reserved and comes.
use Rattle.std.proofs.Common.{◌≡◌, None, map, take}
use Rattle.std.specs.List.{find}
use Rattle.file_owners.specs.db_core.Seen.{members_of}
use Rattle.path_claim_lists.specs.path_claims.Seen.{claim_seen}
use Rattle.own_core.specs.ClaimEntries.{is_added_and_reserved}
use Rattle.own_core.proofs.planning.first_reserved_added_path_in_byte_order.Given as goal

abbrev pub invariant-loop-claim : goal.invariant-loop-claim
invariant-loop-claim l = find (is_added_and_reserved (members_of l.members)) (take l.claim-index (map claim_seen l.claims)) ≡ None
