-- What is left of the packages is still to be added.
use Rattle.std.proofs.Common.{map}
use Rattle.db_core.specs.Members.{member_of_kept}
use Rattle.db_core.specs.Seen.{packages_of}
use Rattle.path_claims.specs.Seen.{claim_seen}
use Rattle.file_owners.proofs.Gathering.{MembersLeft}
use Rattle.file_owners.proofs.database.listed_files.Given as goal

abbrev pub invariant-loop-i : goal.invariant-loop-i
invariant-loop-i l = MembersLeft (map claim_seen l.claims.items) (map member_of_kept (packages_of l.db)) l.i
