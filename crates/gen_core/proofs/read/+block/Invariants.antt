use Rattle.std.proofs.Common.{◌≡◌, ◌+◌, ◌*◌, ◌≤◌, length, drop}
use Rattle.std.specs.Prelude.{option_copied}
use Rattle.adb_view.specs.Rank.{rank, rank_of_all}
use Rattle.adb_view.specs.Schema.{shape_of, shapes_of}
use Rattle.adb_view.specs.declared.tables.Kind.TheVariants.{Obj}
use Rattle.adb_dump.specs.ReadBack.{block_read, entries_read_with_recursion_bound, fields_read}
use Rattle.gen_core.specs.Cursors.{block_at, line_of_block}
use Rattle.gen_core.specs.Reads.{values_taken}
use Rattle.gen_core.proofs.read.+block.Given as goal

abbrev pub decreases-read_block : goal.decreases-read_block
decreases-read_block l = 4 * rank l.kind + 1

abbrev pub decreases-read_array : goal.decreases-read_array
decreases-read_array l = 4 * rank l.kind + 4

abbrev pub decreases-read_entries : goal.decreases-read_entries
decreases-read_entries l = 4 * rank l.kind + 3

abbrev pub decreases-read_entry : goal.decreases-read_entry
decreases-read_entry l = 4 * rank l.kind + 2

abbrev pub decreases-read_object : goal.decreases-read_object
decreases-read_object l = 4 * rank (Obj l.which)

abbrev pub decreases-read_fields : goal.decreases-read_fields
decreases-read_fields l = 4 * rank_of_all l.fields.now + 3

abbrev pub decreases-read_named : goal.decreases-read_named
decreases-read_named l = 4 * rank l.kind + 2

-- what is left of the block gives with what was read what the whole block gives
abbrev pub invariant-read_entries-loop-line : goal.invariant-read_entries-loop-line
invariant-read_entries-loop-line l = record {
  within : l.cursor.levels ≤ l.depth;
  so_far : values_taken (entries_read_with_recursion_bound (block_read (shape_of l.kind)) (length (block_at l.depth l.cursor.lines).0) (block_at l.depth l.cursor.lines).0) (block_at l.depth l.cursor.lines) l.draft l.cursor
      ≡ values_taken (entries_read_with_recursion_bound (block_read (shape_of l.kind)) (length (block_at l.depth l.initial.cursor.lines).0) (block_at l.depth l.initial.cursor.lines).0) (block_at l.depth l.initial.cursor.lines) l.initial.draft l.initial.cursor;
}

abbrev pub decreases-read_entries-loop-line : goal.decreases-read_entries-loop-line
decreases-read_entries-loop-line l = length l.cursor.lines

-- the fields that are left give with what was read what all fields give; `next` is the first line that
-- is left
abbrev pub invariant-read_fields-loop-field : goal.invariant-read_fields-loop-field
invariant-read_fields-loop-field l = record {
  within : l.cursor.levels ≤ l.depth;
  next : option_copied l.next ≡ line_of_block (block_at l.depth l.cursor.lines).0;
  so_far : values_taken (fields_read (shapes_of (drop l.field-index l.fields)) (block_at l.depth l.cursor.lines).0) (block_at l.depth l.cursor.lines) l.draft l.cursor
      ≡ values_taken (fields_read (shapes_of l.fields) (block_at l.depth l.initial.cursor.lines).0) (block_at l.depth l.initial.cursor.lines) l.initial.draft l.initial.cursor;
}
