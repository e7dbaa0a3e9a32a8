-- What is left of the folders is still to be added.
use Rattle.std.proofs.Common.{map}
use Rattle.path_claims.specs.adb_fields.ListValue.{list_value}
use Rattle.adb_view.specs.Values.{entries_in}
use Rattle.db_core.specs.Members.{Member}
use Rattle.path_claims.specs.Seen.{claim_seen}
use Rattle.file_owners.proofs.Gathering.{FoldersLeft}
use Rattle.file_owners.proofs.gather.add_folders.Given as goal

abbrev pub invariant-loop-i : goal.invariant-loop-i
invariant-loop-i l =
    (m : Member) → FoldersLeft (map claim_seen l.fn.claims.items) (map claim_seen l.claims.items) m l.member (entries_in (list_value l.folders)) l.i
