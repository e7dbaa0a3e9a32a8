-- What the stored records and the comparisons of the program mean in the definitions. No rule of a document: serves the
-- contracts of `src/records.rt` and `src/comparing.rt`.
use Rattle.std.specs.Prelude.{Option, Some, None, if◌then◌else◌}
use Rattle.adb_view.specs.Values.{value_at}
use Rattle.adb_view.specs.declared.tables.Kind.TheVariants as Kinds
use Rattle.adb_view.specs.declared.tables.Which.TheVariants as Tables
use Rattle.audit_core.specs.Records.{PathAndEntry}
use Rattle.audit_core.specs.StoredRecords.{StoredRecord}
use Rattle.audit_core.specs.declared.comparing.Difference.{Difference}
use Rattle.audit_core.specs.declared.comparing.Difference.TheVariants.{Changed, Missing}
use Rattle.file_guard.specs.declared.compare.Comparison.{Comparison}

-- the record that a stored record means: its path, and its entry decoded from the payload
abbrev pub record_seen : StoredRecord → PathAndEntry
record_seen r = record {
  path = r.path;
  entry = value_at r.payload (Kinds.Obj Tables.File) r.word;
}

-- how a file differs from its entry, given how the program compared them: `comparison` is None if there is no file. The
-- result is None if the file does not differ
abbrev pub difference_for_comparison : Option Comparison → Option Difference
difference_for_comparison None = Some Missing
difference_for_comparison (Some comparison) = if comparison.as_new then None else Some Changed
