-- With the members that are left, by the flags that are left, it has all.
use Rattle.std.proofs.Common.{◌≡◌, drop}
use Rattle.adb_copy.specs.adb_values.Drafts.{draft_with_all}
use Rattle.adb_copy.specs.Known.{AreRememberedBlobsOfDraft}
use Rattle.db_core.specs.Seen.{members_of, payload_of_old_database}
use Rattle.db_core.specs.NewDatabase.{values_by_successive_flags, member_file_count, package_in_new_database}
use Rattle.db_core.proofs.packages.write_packages.Given as goal

abbrev pub invariant-loop-i : goal.invariant-loop-i
invariant-loop-i l = record {
  left : draft_with_all (values_by_successive_flags member_file_count package_in_new_database (drop l.i (members_of l.members)) l.left) l.draft
      ≡ draft_with_all (values_by_successive_flags member_file_count package_in_new_database (members_of l.members) l.flags) l.initial.draft;
  known : AreRememberedBlobsOfDraft (payload_of_old_database l.members) l.draft l.known;
}
