-- What is left of the members is still to be added.
use Rattle.std.proofs.Common.{map}
use Rattle.db_core.specs.Seen.{members_of}
use Rattle.path_claims.specs.Seen.{claim_seen}
use Rattle.file_owners.proofs.Gathering.{MembersLeft}
use Rattle.file_owners.proofs.gather.claims_in.Given as goal

abbrev pub invariant-loop-i : goal.invariant-loop-i
invariant-loop-i l = MembersLeft (map claim_seen l.claims.items) (members_of l.members) l.i
