-- The places of the members so far.
use Rattle.std.proofs.Common.{map}
use Rattle.db_core.specs.Seen.{members_of}
use Rattle.file_owners.proofs.NamedPlaces.{AreOfEachSoFar}
use Rattle.file_owners.proofs.named.places_of_each.Given as goal

abbrev pub invariant-loop-i : goal.invariant-loop-i
invariant-loop-i l = AreOfEachSoFar (members_of l.members) (map (λ v. v.items) l.named.items) l.i
