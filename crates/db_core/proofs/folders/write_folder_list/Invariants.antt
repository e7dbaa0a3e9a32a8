-- With the folders that are left, by the flags that are left, it has all.
use Rattle.std.proofs.Common.{◌≡◌, drop}
use Rattle.adb_view.specs.Adb.{payload_of}
use Rattle.adb_view.specs.Entries.{array_entries}
use Rattle.adb_copy.specs.adb_fields.Fields.{array_at}
use Rattle.adb_view.specs.declared.tables.Kind.TheVariants as Kinds
use Rattle.adb_view.specs.declared.tables.Which.TheVariants as Tables
use Rattle.adb_copy.specs.adb_fields.Repeated.{list_of}
use Rattle.adb_view.specs.Values.{entries_in}
use Rattle.adb_copy.specs.adb_values.Drafts.{draft_with_all}
use Rattle.adb_copy.specs.Known.{AreRememberedBlobsOfDraft}
use Rattle.db_core.specs.NewDatabase.{values_by_successive_flags, folder_file_count, folder_in_new_database}
use Rattle.db_core.proofs.folders.write_folder_list.Given as goal

abbrev pub invariant-loop-i : goal.invariant-loop-i
invariant-loop-i l = record {
  left : draft_with_all (values_by_successive_flags folder_file_count folder_in_new_database (drop l.i (list_of (entries_in (array_at (payload_of l.adb) (Kinds.Obj Tables.Dir) (array_entries l.folders))))) l.left) l.draft
      ≡ draft_with_all (values_by_successive_flags folder_file_count folder_in_new_database (list_of (entries_in (array_at (payload_of l.adb) (Kinds.Obj Tables.Dir) (array_entries l.folders)))) l.flags) l.initial.draft;
  known : AreRememberedBlobsOfDraft (payload_of l.adb) l.draft l.known;
}
