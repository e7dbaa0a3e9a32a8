use Rattle.std.proofs.Common.{◌≡◌, ◌+◌, ◌*◌, drop, true}
use Rattle.adb_view.specs.Adb.{payload_of}
use Rattle.adb_view.specs.Entries.{array_entries}
use Rattle.adb_schema.specs.adb_fields.Fields.{are_all_sound, values_at}
use Rattle.adb_view.specs.Schema.{shape_of, shapes_of}
use Rattle.adb_dump.specs.Dump.{block_lines, array_lines, fields_lines}
use Rattle.adb_view.specs.Rank.{rank, rank_of_all}
use Rattle.adb_dump.specs.Margin.{indented_lines_text}
use Rattle.std.specs.Prelude.{◌&&◌}
use Rattle.adb_view.specs.declared.tables.Kind.TheVariants.{Obj}
use Rattle.adb_dump.specs.Words.{are_null, fields_sound, fields_at}
use Rattle.adb_dump.proofs.Left.{entries_left, fields_left}
use Rattle.adb_dump.proofs.Puts.{IsSoFar}
use Rattle.adb_dump.proofs.block.+block.Given as goal

abbrev pub decreases-write_block : goal.decreases-write_block
decreases-write_block g l = 2 * rank l.kind

abbrev pub decreases-write_entries : goal.decreases-write_entries
decreases-write_entries g l = 2 * rank l.kind + 2

abbrev pub decreases-write_entry : goal.decreases-write_entry
decreases-write_entry g l = 2 * rank l.kind + 1

abbrev pub decreases-write_object_entry : goal.decreases-write_object_entry
decreases-write_object_entry g l = 2 * rank (Obj l.which)

abbrev pub decreases-write_fields : goal.decreases-write_fields
decreases-write_fields g l = 2 * rank_of_all l.fields.now + 3

abbrev pub decreases-write_field : goal.decreases-write_field
decreases-write_field g l = 2 * rank l.field.kind + 2

abbrev pub decreases-write_named : goal.decreases-write_named
decreases-write_named g l = 2 * rank l.field.kind + 1

abbrev pub invariant-write_entries-loop-i : goal.invariant-write_entries-loop-i
invariant-write_entries-loop-i g l = record {
  sound : are_all_sound (payload_of l.adb) l.kind (drop l.i (array_entries l.words)) ≡ true;
  so_far : IsSoFar (g.O.Out.holds (payload_of l.adb)) l.initial.out l.out (indented_lines_text l.start.depth l.begun (entries_left (payload_of l.adb) l.kind (array_entries l.words) l.i)) (indented_lines_text l.start.depth l.initial.begun (array_lines (block_lines (shape_of l.kind)) (values_at (payload_of l.adb) l.kind (array_entries l.words))));
}

abbrev pub invariant-write_fields-loop-i : goal.invariant-write_fields-loop-i
invariant-write_fields-loop-i g l = record {
  sound : fields_sound (payload_of l.adb) (drop l.i l.fields) (drop l.i (array_entries l.words)) ≡ true;
  null : are_null (fields_at (payload_of l.adb) l.fields (array_entries l.words)) ≡ (l.all_null && are_null (fields_at (payload_of l.adb) (drop l.i l.fields) (drop l.i (array_entries l.words))));
  so_far : IsSoFar (g.O.Out.holds (payload_of l.adb)) l.initial.out l.out (indented_lines_text l.start.depth l.begun (fields_left (payload_of l.adb) l.fields (array_entries l.words) l.i)) (indented_lines_text l.start.depth l.initial.begun (fields_lines (shapes_of l.fields) (fields_at (payload_of l.adb) l.fields (array_entries l.words))));
}
