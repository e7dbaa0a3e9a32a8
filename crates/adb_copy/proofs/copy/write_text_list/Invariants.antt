use Rattle.std.proofs.Common.{◌≡◌}
use Rattle.adb_view.specs.Adb.{payload_of}
use Rattle.adb_view.specs.Entries.{array_entries}
use Rattle.adb_fields.specs.Fields.{array_at}
use Rattle.adb_view.specs.Values.{entries_in}
use Rattle.adb_view.specs.declared.tables.Kind.TheVariants as Kinds
use Rattle.adb_values.specs.Drafts.{draft_with_all}
use Rattle.adb_copy.specs.Known.{AreRememberedBlobsOfDraft}
use Rattle.adb_copy.specs.Zeros.{all_without_zeros}
use Rattle.adb_copy.proofs.Lists.{rest}
use Rattle.adb_copy.proofs.copy.write_text_list.Given as goal

-- with those that are left it has all
abbrev pub invariant-loop-i : goal.invariant-loop-i
invariant-loop-i l = record {
  left : draft_with_all (all_without_zeros (rest l.i (entries_in (array_at (payload_of l.adb) Kinds.Text (array_entries l.texts))))) l.draft
      ≡ draft_with_all (all_without_zeros (entries_in (array_at (payload_of l.adb) Kinds.Text (array_entries l.texts)))) l.initial.draft;
  known : AreRememberedBlobsOfDraft (payload_of l.adb) l.draft l.known;
}
