-- With the files that are left and whose flag is set it has all.
use Rattle.std.proofs.Common.{◌≡◌}
use Rattle.adb_view.specs.Adb.{payload_of}
use Rattle.adb_view.specs.Entries.{array_entries}
use Rattle.adb_copy.specs.adb_fields.Fields.{array_at}
use Rattle.adb_view.specs.declared.tables.Kind.TheVariants as Kinds
use Rattle.adb_view.specs.declared.tables.Which.TheVariants as Tables
use Rattle.adb_copy.specs.adb_fields.Repeated.{list_of}
use Rattle.adb_view.specs.Values.{entries_in}
use Rattle.adb_copy.specs.adb_values.Drafts.{draft_with_all}
use Rattle.adb_copy.specs.Known.{AreRememberedBlobsOfDraft}
use Rattle.db_core.specs.NewDatabase.{owned_entries_without_zeros}
use Rattle.db_core.proofs.Marking.{owned_from}
use Rattle.db_core.proofs.folders.write_files.Given as goal

abbrev pub invariant-loop-i : goal.invariant-loop-i
invariant-loop-i l = record {
  left : draft_with_all (owned_from (entries_in (array_at (payload_of l.adb) (Kinds.Obj Tables.File) (array_entries l.files))) l.flags l.i) l.draft
      ≡ draft_with_all (owned_entries_without_zeros (list_of (entries_in (array_at (payload_of l.adb) (Kinds.Obj Tables.File) (array_entries l.files)))) l.flags) l.initial.draft;
  known : AreRememberedBlobsOfDraft (payload_of l.adb) l.draft l.known;
}
