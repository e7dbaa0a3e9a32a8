use Rattle.std.proofs.Common.{◌≡◌, ℕ, suc, ◌+◌, ◌*◌, true, drop, get_or, None}
use Rattle.adb_view.specs.Adb.{payload_of}
use Rattle.adb_view.specs.Entries.{array_entries}
use Rattle.adb_view.specs.Schema.{table_number, table, shape_of, shapes_of}
use Rattle.adb_fields.specs.Fields.{are_all_sound, values_at}
use Rattle.adb_view.specs.Rank.{rank, rank_of_all}
use Rattle.adb_view.specs.Values.{entries_in, value_at}
use Rattle.adb_schema.specs.Surroundings.{surroundings_of}
use Rattle.adb_schema.specs.Texts.{leaves_of_all_values, field_leaves, first_bad_leaf, leaves}
use Rattle.adb_view.specs.declared.tables.Kind.TheVariants.{Obj}
use Rattle.adb_schema.proofs.TextSteps.{behind}
use Rattle.adb_schema.proofs.text_walk.+check.Given as goal

abbrev pub decreases-check_value : goal.decreases-check_value
decreases-check_value l = rank l.kind

abbrev pub decreases-check_entries : goal.decreases-check_entries
decreases-check_entries l = rank l.kind + 1

abbrev pub decreases-check_fields : goal.decreases-check_fields
decreases-check_fields l = rank_of_all (table l.which) + 1

abbrev pub invariant-check_entries-loop-i : goal.invariant-check_entries-loop-i
invariant-check_entries-loop-i l = record {
  payload : l.judged.adb ≡ l.fn.judged.adb;
  sound : are_all_sound (payload_of l.adb) l.kind (drop l.i (array_entries l.entries)) ≡ true;
  so_far : first_bad_leaf (leaves_of_all_values (leaves (shape_of l.kind) l.field_place_in_causes (surroundings_of l.around)) (values_at (payload_of l.adb) l.kind (drop l.i (array_entries l.entries)))) ≡ first_bad_leaf (leaves_of_all_values (leaves (shape_of l.kind) l.field_place_in_causes (surroundings_of l.around)) (values_at (payload_of l.adb) l.kind (array_entries l.entries)));
  before : (j : ℕ) → l.i ≡ suc j → None ≡ first_bad_leaf (leaves (shape_of l.kind) l.field_place_in_causes (surroundings_of l.around) (value_at (payload_of l.adb) l.kind (get_or (array_entries l.entries) j 0)));
}

abbrev pub invariant-check_fields-loop-i : goal.invariant-check_fields-loop-i
invariant-check_fields-loop-i l = record {
  payload : l.judged.adb ≡ l.fn.judged.adb;
  field_place_in_causes : l.field_place_in_causes ≡ 100 * table_number l.fn.which + l.i;
  so_far : first_bad_leaf (field_leaves (shapes_of (drop l.i (table l.fn.which))) (l.field_place_in_causes + 1) (surroundings_of l.around) (behind l.i (entries_in (value_at (payload_of l.adb) (Obj l.fn.which) l.fn.object)))) ≡ first_bad_leaf (field_leaves (shapes_of (table l.fn.which)) (100 * table_number l.fn.which + 1) (surroundings_of l.around) (entries_in (value_at (payload_of l.adb) (Obj l.fn.which) l.fn.object)));
}
