-- What is left of the files is still to be added.
use Rattle.std.proofs.Common.{map}
use Rattle.path_claims.specs.adb_fields.ListValue.{list_value}
use Rattle.adb_view.specs.Values.{entries_in}
use Rattle.db_core.specs.Members.{Member}
use Rattle.path_claims.specs.Seen.{claim_seen}
use Rattle.file_owners.proofs.Gathering.{FilesLeft}
use Rattle.file_owners.proofs.gather.add_files.Given as goal

abbrev pub invariant-loop-i : goal.invariant-loop-i
invariant-loop-i l =
    (m : Member) → FilesLeft (map claim_seen l.fn.claims.items) (map claim_seen l.claims.items) m l.place.member l.place.folder l.place.name.now (entries_in (list_value l.files)) l.i
