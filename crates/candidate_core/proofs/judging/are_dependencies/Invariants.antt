use Rattle.std.proofs.Common.{◌≡◌, ◌<◌, ℕ}
use Rattle.adb_view.specs.Adb.{payload_of}
use Rattle.adb_view.specs.Entries.{array_entries}
use Rattle.adb_schema.specs.adb_fields.Fields.{array_at}
use Rattle.adb_schema.specs.SoundValues.{ObeysTextAndNumberRulesOfDependency}
use Rattle.adb_view.specs.Values.{entry_at_index}
use Rattle.adb_view.specs.declared.tables.Kind.TheVariants as Kinds
use Rattle.adb_view.specs.declared.tables.Which.TheVariants as Tables
use Rattle.candidate_core.proofs.judging.are_dependencies.Given as goal

abbrev pub invariant-loop-i : goal.invariant-loop-i
invariant-loop-i l = record {
  each : (k : ℕ) → k < l.i → ObeysTextAndNumberRulesOfDependency (entry_at_index (array_at (payload_of l.initial.judged.adb) (Kinds.Obj Tables.Dep) (array_entries l.words)) k);
  payload : l.judged.adb ≡ l.initial.judged.adb;
}
