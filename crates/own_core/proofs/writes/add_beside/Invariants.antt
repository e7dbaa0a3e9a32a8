-- The writes of the claims so far stand behind the others.
use Rattle.std.proofs.Common.{◌≡◌, ◌++◌, map, take}
use Rattle.path_claim_lists.specs.path_claims.Seen.{claim_seen}
use Rattle.own_core.specs.WritesSeen.{apk_new_write, write_seen}
use Rattle.own_core.proofs.writes.add_beside.Given as goal

abbrev pub invariant-loop-claim : goal.invariant-loop-claim
invariant-loop-claim l = map write_seen l.writes.items ≡ map write_seen l.fn.writes.items ++ map apk_new_write (map claim_seen (take l.claim-index l.asides))
