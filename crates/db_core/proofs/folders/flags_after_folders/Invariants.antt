-- The flags of the folders so far are passed.
use Rattle.std.proofs.Common.{◌≡◌}
use Rattle.adb_view.specs.Adb.{payload_of}
use Rattle.adb_view.specs.Entries.{array_entries}
use Rattle.adb_copy.specs.adb_fields.Fields.{array_at}
use Rattle.adb_view.specs.declared.tables.Kind.TheVariants as Kinds
use Rattle.adb_view.specs.declared.tables.Which.TheVariants as Tables
use Rattle.adb_copy.specs.adb_fields.Repeated.{list_of}
use Rattle.adb_view.specs.Values.{entries_in}
use Rattle.db_core.specs.NewDatabase.{folder_file_count}
use Rattle.db_core.proofs.Segments.{left_flags}
use Rattle.db_core.proofs.folders.flags_after_folders.Given as goal

abbrev pub invariant-loop-i : goal.invariant-loop-i
invariant-loop-i l = l.left ≡ left_flags folder_file_count l.i (list_of (entries_in (array_at (payload_of l.adb) (Kinds.Obj Tables.Dir) (array_entries l.folders)))) l.flags
