use Rattle.std.proofs.Common.{◌≡◌, ◌≢◌, ◌+◌, ◌<◌, ◌≤◌, ℕ, List, [], ◌∷◌, ◌++◌, length, drop, get_or, Some, None, Ok, Err, Result, true, false, arith, ap, sym, subst, ◌∙◌, refl, eqb}
use Rattle.std.specs.Prelude.{OnOk, IfErr, codes, option_copied}
use Rattle.std.proofs.lemmas.Result.{err_from_is_err_and}
use Rattle.std.proofs.lemmas.List.{drop_more, drop_all}
use Rattle.adb_view.specs.Plain.{Plain, Plains, Shape, array, null, array_or_null, trimmed_object_or_null, Fields, field}
use Rattle.adb_view.specs.Schema.{field_name_text, shape_of, shapes_of, table}
use Rattle.adb_view.specs.Shapes.{objects_shape, texts_shape}
use Rattle.adb_view.specs.declared.tables.Field.{Field}
use Rattle.adb_view.specs.declared.tables.FieldName.TheVariants.{Name}
use Rattle.adb_view.specs.declared.tables.Kind.{Kind}
use Rattle.adb_view.specs.declared.tables.Kind.TheVariants.{Int, Text, Obj, TextArr, ObjArr}
use Rattle.adb_values.specs.Drafts.{DraftState, draft_with, draft_with_open_list}
use Rattle.adb_dump.specs.Dump.{Line}
use Rattle.adb_dump.specs.ReadBack.{ResultOrBadLine, strip_prefix, array_or_bad_line_if_empty, block_read, entries_read_with_recursion_bound, fields_read, named_read, object_or_bad_line_if_empty}
use Rattle.gen_core.specs.Cursors.{CursorState, cursor_after_line, block_at, line_of_block}
use Rattle.gen_core.specs.Reads.{DraftOrBadLine, IsTextFault, block_taken, end_or_bad_line, entry_block_read, line_read, draft_and_cursor_after_line, values_taken}
use Rattle.gen_core.specs.declared.generate.GenFault.{GenFault}
use Rattle.gen_core.proofs.Blocks.{Split}
use Rattle.gen_core.proofs.Escapes.{empty_line, some_line}
use Rattle.gen_core.proofs.Reading.{Answers, bad_fault, if_err, on_ok, field_absent, field_there, fields_end, fields_stop, entries_stop, handed_on, none_taken, same_fault, some_first, taken}
use Rattle.gen_core.proofs.Entries.{EntryLeft, NamedLeft, array_made, below_bad, below_left, entry_bad, entry_left, line_bad, line_left, list_bad, list_closed, no_space, not_below, null_entry, object_made}
use Rattle.gen_core.proofs.KindShapes.{array_read, below_name, on_line, table_read}
use Rattle.gen_core.proofs.read.+block.Goals as goal
use Rattle.gen_core.proofs.read.+block.Goals.{read_fields-in-Some-after_name+in_ok-read_named-in-Some-after_name, read_fields-in-None+in_ok-null-in-None}

-- ---- arrays

pub read_array-returns-in_default-clause-err : goal.read_array-returns-in_default-clause-err
read_array-returns-in_default-clause-err t c =
    bad_fault c.bad_line.result c.args.cursor.now.number _ c.bad_line.ensures (none_taken (array (shape_of c.args.kind)) c.args.depth c.args.draft.now c.args.cursor.now c.in_default.ensures)

pub read_array-returns-in_err-read_entries-clause-err : goal.read_array-returns-in_err-read_entries-clause-err
read_array-returns-in_err-read_entries-clause-err t c =
    let s = shape_of c.args.kind in
    let block = block_at c.args.depth c.args.cursor.now.lines in
    let read = entries_read_with_recursion_bound (block_read s) (length block.0) block.0 in
    let whole = block_taken (block_read (array s) block.0) block c.args.draft.now c.args.cursor.now in
    handed_on c.from_residual-in_err-read_entries.result c.in_err-read_entries.field-0.0 (λ (fault : GenFault). IsTextFault fault whole) (err_from_is_err_and c.from_residual-in_err-read_entries.result c.from_residual-in_err-read_entries.ensures.1)
    (same_fault c.in_err-read_entries.field-0.0 (values_taken read block c.open_list.new.self c.args.cursor.now) whole
    (λ n e. ap (λ (r : ResultOrBadLine Plain). block_taken r block c.args.draft.now c.args.cursor.now) (array_read s block.0) ∙ list_bad read array_or_bad_line_if_empty block c.args.draft.now c.open_list.new.self c.args.cursor.now n e)
    c.in_err-read_entries.ensures.err)

pub read_array-returns-clause-ok : goal.read_array-returns-clause-ok
read_array-returns-clause-ok t c =
    let s = shape_of c.args.kind in
    let block = block_at c.args.depth c.args.cursor.now.lines in
    let read = entries_read_with_recursion_bound (block_read s) (length block.0) block.0 in
    ap (λ (r : ResultOrBadLine Plain). block_taken r block c.args.draft.now c.args.cursor.now) (array_read s block.0)
    ∙ list_closed read array_or_bad_line_if_empty array_or_null block c.args.draft.now c.args.cursor.now (array_made (block_read s) block.0 c.in-Some._line.now c.in-Some.ensures) (c.read_entries.new.draft, c.read_entries.new.cursor)
    (subst (λ (d : DraftState). values_taken read block d c.args.cursor.now ≡ taken c.read_entries.new.draft c.read_entries.new.cursor) c.in_ok-open_list.ensures.ok c.in_ok-read_entries.ensures.ok) c.close_array.new.self c.in_ok-close_array.ensures.ok

-- ---- kinds

array_kind : (k kind element : Kind) → k ≡ kind → shape_of kind ≡ array (shape_of element) → array (shape_of element) ≡ shape_of k
array_kind k kind element e f = sym (ap shape_of e ∙ f)

pub read_block-returns-in-TextArr-clause-ok : goal.read_block-returns-in-TextArr-clause-ok
read_block-returns-in-TextArr-clause-ok t c =
    let block = block_at c.args.depth c.args.cursor.now.lines in
    subst (λ (s : Shape). OnOk c.read_array.result (block_taken (block_read s block.0) block c.args.draft.now c.args.cursor.now ≡ taken c.read_array.new.draft c.read_array.new.cursor)) (array_kind c.args.kind TextArr Text c.in-TextArr.is texts_shape) c.read_array.ensures.ok

pub read_block-returns-in-TextArr-clause-err : goal.read_block-returns-in-TextArr-clause-err
read_block-returns-in-TextArr-clause-err t c =
    let block = block_at c.args.depth c.args.cursor.now.lines in
    subst (λ (s : Shape). IfErr c.read_array.result (λ fault. IsTextFault fault (block_taken (block_read s block.0) block c.args.draft.now c.args.cursor.now))) (array_kind c.args.kind TextArr Text c.in-TextArr.is texts_shape) c.read_array.ensures.err

pub read_block-returns-in-ObjArr-clause-ok : goal.read_block-returns-in-ObjArr-clause-ok
read_block-returns-in-ObjArr-clause-ok t c =
    let block = block_at c.args.depth c.args.cursor.now.lines in
    subst (λ (s : Shape). OnOk c.read_array-in-ObjArr.result (block_taken (block_read s block.0) block c.args.draft.now c.args.cursor.now ≡ taken c.read_array-in-ObjArr.new.draft c.read_array-in-ObjArr.new.cursor)) (array_kind c.args.kind (ObjArr c.in-ObjArr.which) (Obj c.in-ObjArr.which) c.in-ObjArr.is (objects_shape c.in-ObjArr.which)) c.read_array-in-ObjArr.ensures.ok

pub read_block-returns-in-ObjArr-clause-err : goal.read_block-returns-in-ObjArr-clause-err
read_block-returns-in-ObjArr-clause-err t c =
    let block = block_at c.args.depth c.args.cursor.now.lines in
    subst (λ (s : Shape). IfErr c.read_array-in-ObjArr.result (λ fault. IsTextFault fault (block_taken (block_read s block.0) block c.args.draft.now c.args.cursor.now))) (array_kind c.args.kind (ObjArr c.in-ObjArr.which) (Obj c.in-ObjArr.which) c.in-ObjArr.is (objects_shape c.in-ObjArr.which)) c.read_array-in-ObjArr.ensures.err

-- ---- entries

left : (t : ℕ) (c : goal.read_entries-In_ok-read_entry t) → EntryLeft (block_read (shape_of c.args.kind)) c.args.depth c.loop-line.draft c.loop-line.cursor (c.read_entry.new.draft, c.read_entry.new.cursor)
left t c =
    let f = block_read (shape_of c.args.kind) in
    entry_left f c.args.depth c.in-Some.line.now c.in-Some-without_prefix.entry.now c.loop-line.draft c.loop-line.cursor c.in-Some.ensures c.in-Some-without_prefix.ensures (c.read_entry.new.draft, c.read_entry.new.cursor)
    (subst (λ (p : CursorState). block_taken (entry_block_read f (block_at (c.args.depth + 1) p.lines).0) (block_at (c.args.depth + 1) p.lines) c.loop-line.draft p ≡ taken c.read_entry.new.draft c.read_entry.new.cursor) c.read_dash.ensures c.in_ok-read_entry.ensures.ok)

pub read_entries-loop-line-smaller : goal.read_entries-loop-line-smaller
read_entries-loop-line-smaller t c = (left t c).shorter

pub read_entries-loop-line-preserved : goal.read_entries-loop-line-preserved
read_entries-loop-line-preserved t c =
    let l = left t c in
    record {
      within = omega (arith, l.levels);
      so_far = l.so_far ∙ c.loop-line.invariant.so_far;
    }

pub read_entries-returns-in_err-read_entry-clause-err : goal.read_entries-returns-in_err-read_entry-clause-err
read_entries-returns-in_err-read_entry-clause-err t c =
    let f = block_read (shape_of c.args.kind) in
    let start = block_at c.args.depth c.args.cursor.now.lines in
    let whole = values_taken (entries_read_with_recursion_bound f (length start.0) start.0) start c.args.draft.now c.args.cursor.now in
    let inner = block_at (c.args.depth + 1) c.read_dash.new.self.lines in
    handed_on c.from_residual.result c.in_err-read_entry.field-0.0 (λ (fault : GenFault). IsTextFault fault whole) (err_from_is_err_and c.from_residual.result c.from_residual.ensures.1)
    (same_fault c.in_err-read_entry.field-0.0 (block_taken (entry_block_read f inner.0) inner c.loop-line.draft c.read_dash.new.self) whole
    (λ n e. sym c.loop-line.invariant.so_far ∙ entry_bad f c.args.depth c.in-Some.line.now c.in-Some-without_prefix.entry.now c.loop-line.draft c.loop-line.cursor c.in-Some.ensures c.in-Some-without_prefix.ensures n
    (subst (λ (p : CursorState). block_taken (entry_block_read f (block_at (c.args.depth + 1) p.lines).0) (block_at (c.args.depth + 1) p.lines) c.loop-line.draft p ≡ Err n) c.read_dash.ensures e))
    c.in_err-read_entry.ensures.err)

pub read_entries-returns-clause-ok : goal.read_entries-returns-clause-ok
read_entries-returns-clause-ok t c = sym c.loop-line.invariant.so_far ∙ entries_stop (block_read (shape_of c.args.kind)) c.args.depth c.loop-line.draft c.loop-line.cursor c.in_default.ensures

pub read_entry-returns-then-is_null_entry-clause-ok : goal.read_entry-returns-then-is_null_entry-clause-ok
read_entry-returns-then-is_null_entry-clause-ok t c =
    let f = block_read (shape_of c.args.kind) in
    let block = block_at c.args.depth c.args.cursor.now.lines in
    let whole = block_taken (entry_block_read f block.0) block c.args.draft.now c.args.cursor.now in
    let a : Answers c.end_block.result whole (draft_with null c.args.draft.now) (cursor_after_line c.args.cursor.now.lines c.args.cursor.now) =
    null_entry f c.args.depth c.args.draft.now c.args.cursor.now c.if-is_null_entry.ensures c.end_block.result (subst (λ (p : CursorState). c.end_block.result ≡ end_or_bad_line (block_at c.args.depth p.lines).0 p.number) c.turn.ensures c.end_block.ensures) in
    subst (λ (d : DraftState). OnOk c.end_block.result (whole ≡ taken d c.turn.new.self)) (sym c.in_ok-null.ensures.ok)
    (subst (λ (p : CursorState). OnOk c.end_block.result (whole ≡ taken (draft_with null c.args.draft.now) p)) (sym c.turn.ensures) a.ok)

-- ---- fields

abbrev first : Field
first = record { name = Name; kind = Int }

-- the fields that are left, by the next of them
next_fields : (fs : List Field) (i : ℕ) → i < length fs → shapes_of (drop i fs) ≡ field (field_name_text (get_or fs i first).name) (shape_of (get_or fs i first).kind) (shapes_of (drop (i + 1) fs))
next_fields fs i lt = ap shapes_of (drop_more fs i first lt)

pub read_fields-returns-in_default-clause-ok : goal.read_fields-returns-in_default-clause-ok
read_fields-returns-in_default-clause-ok t c = sym c.loop-field.invariant.so_far ∙ fields_stop (shapes_of (drop c.loop-field.field-index c.args.fields.now)) c.args.depth c.loop-field.draft c.loop-field.cursor (sym (ap option_copied c.in_default.is) ∙ c.loop-field.invariant.next)

-- a field that comes next
there : (fs : List Field) (i depth : ℕ) (line value : Line) (d : DraftState) (c : CursorState) → i < length fs → Some line ≡ line_of_block (block_at depth c.lines).0 → Some value ≡ strip_prefix (field_name_text (get_or fs i first).name ++ codes ":") line
    → values_taken (fields_read (shapes_of (drop i fs)) (block_at depth c.lines).0) (block_at depth c.lines) d c
    ≡ values_taken (named_read (shape_of (get_or fs i first).kind) (fields_read (shapes_of (drop (i + 1) fs))) (drop 1 (block_at depth c.lines).0) value) (block_at depth c.lines) d c
there fs i depth line value d c lt e named =
    ap (λ (x : Fields). values_taken (fields_read x (block_at depth c.lines).0) (block_at depth c.lines) d c) (next_fields fs i lt)
    ∙ ap (λ (r : ResultOrBadLine Plains). values_taken r (block_at depth c.lines) d c) (field_there (field_name_text (get_or fs i first).name) (shape_of (get_or fs i first).kind) (shapes_of (drop (i + 1) fs)) depth line value c e named)

-- a field that does not
absent : (fs : List Field) (i depth : ℕ) (line : Line) (d : DraftState) (c : CursorState) → i < length fs → Some line ≡ line_of_block (block_at depth c.lines).0 → None ≡ strip_prefix (field_name_text (get_or fs i first).name ++ codes ":") line
    → values_taken (fields_read (shapes_of (drop (i + 1) fs)) (block_at depth c.lines).0) (block_at depth c.lines) (draft_with null d) c ≡ values_taken (fields_read (shapes_of (drop i fs)) (block_at depth c.lines).0) (block_at depth c.lines) d c
absent fs i depth line d c lt e named =
    field_absent (field_name_text (get_or fs i first).name) (shape_of (get_or fs i first).kind) (shapes_of (drop (i + 1) fs)) depth line d c e named
    ∙ sym (ap (λ (x : Fields). values_taken (fields_read x (block_at depth c.lines).0) (block_at depth c.lines) d c) (next_fields fs i lt))

pub read_fields-returns-in_err-read_named-in-Some-after_name-clause-err : goal.read_fields-returns-in_err-read_named-in-Some-after_name-clause-err
read_fields-returns-in_err-read_named-in-Some-after_name-clause-err t c =
    let fs = c.args.fields.now in
    let i = c.loop-field.field-index in
    let start = block_at c.args.depth c.args.cursor.now.lines in
    let whole = values_taken (fields_read (shapes_of fs) start.0) start c.args.draft.now c.args.cursor.now in
    let block = block_at c.args.depth c.loop-field.cursor.lines in
    let others = fields_read (shapes_of (drop (i + 1) fs)) in
    handed_on c.from_residual.result c.in_err-read_named-in-Some-after_name.field-0.0 (λ (fault : GenFault). IsTextFault fault whole) (err_from_is_err_and c.from_residual.result c.from_residual.ensures.1)
    (same_fault c.in_err-read_named-in-Some-after_name.field-0.0 (values_taken (named_read (shape_of (get_or fs i first).kind) others (drop 1 block.0) c.in-Some-after_name.value.now) block c.loop-field.draft c.loop-field.cursor) whole
    (λ n e. sym c.loop-field.invariant.so_far ∙ there fs i c.args.depth c.in-Some.line.now c.in-Some-after_name.value.now c.loop-field.draft c.loop-field.cursor c.loop-field-test.true (sym (ap option_copied c.in-Some.is) ∙ c.loop-field.invariant.next) c.in-Some-after_name.ensures ∙ e)
    (c.in_err-read_named-in-Some-after_name.ensures.err others))

pub read_fields-loop-field-preserved : goal.read_fields-loop-field-preserved
read_fields-loop-field-preserved t c =
    let fs = c.args.fields.now in
    let i = c.loop-field.field-index in
    let others = fields_read (shapes_of (drop (i + 1) fs)) in
    let line : Some c.in-Some.line.now ≡ line_of_block (block_at c.args.depth c.loop-field.cursor.lines).0 = sym (ap option_copied c.in-Some.is) ∙ c.loop-field.invariant.next in
    let first_of = λ (p : CursorState). line_of_block (block_at c.args.depth p.lines).0 in
    let left = λ (d : DraftState) (p : CursorState). values_taken (others (block_at c.args.depth p.lines).0) (block_at c.args.depth p.lines) d p in
    elim c.match-after_name.branch [
      | read_fields-in-Some-after_name+in_ok-read_named-in-Some-after_name w ↦ record {
        within = subst (λ (p : CursorState). p.levels ≤ c.args.depth) (sym w.cursor-is) (omega (arith, w.in_ok-read_named-in-Some-after_name.ensures.begun));
        next = ap option_copied w.next-is ∙ w.at_depth-next-in-Some-after_name.ensures ∙ ap first_of (sym w.cursor-is);
        so_far =
            ap (λ (d : DraftState). left d c.match-after_name.cursor) w.draft-is ∙ ap (λ (p : CursorState). left w.read_named.new.draft p) w.cursor-is
            ∙ sym (w.in_ok-read_named-in-Some-after_name.ensures.ok others)
            ∙ sym (there fs i c.args.depth c.in-Some.line.now w.in-Some-after_name.value.now c.loop-field.draft c.loop-field.cursor c.loop-field-test.true line w.in-Some-after_name.ensures)
            ∙ c.loop-field.invariant.so_far;
      }
      | read_fields-in-None+in_ok-null-in-None w ↦ record {
        within = subst (λ (p : CursorState). p.levels ≤ c.args.depth) (sym w.cursor-is) c.loop-field.invariant.within;
        next = ap option_copied w.next-is ∙ c.loop-field.invariant.next ∙ ap first_of (sym w.cursor-is);
        so_far =
            ap (λ (d : DraftState). left d c.match-after_name.cursor) (w.draft-is ∙ w.in_ok-null-in-None.ensures.ok) ∙ ap (λ (p : CursorState). left (draft_with null c.loop-field.draft) p) w.cursor-is
            ∙ absent fs i c.args.depth c.in-Some.line.now c.loop-field.draft c.loop-field.cursor c.loop-field-test.true line w.in-None.ensures
            ∙ c.loop-field.invariant.so_far;
      }
    ]

pub read_fields-returns-clause-ok : goal.read_fields-returns-clause-ok
read_fields-returns-clause-ok t c =
    let block = block_at c.args.depth c.loop-field.cursor.lines in
    let over : shapes_of (drop c.loop-field.field-index c.args.fields.now) ≡ shapes_of [] = ap shapes_of (drop_all c.loop-field.field-index c.args.fields.now c.loop-field-test.false) in
    let whole = sym c.loop-field.invariant.so_far ∙ ap (λ (fs : Fields). values_taken (fields_read fs block.0) block c.loop-field.draft c.loop-field.cursor) over in
    subst (λ (read : DraftOrBadLine). OnOk c.end_block.result (read ≡ taken c.loop-field.draft c.loop-field.cursor)) (sym whole) (fields_end c.args.depth c.loop-field.draft c.loop-field.cursor c.end_block.result c.end_block.ensures).ok

pub read_fields-returns-clause-err : goal.read_fields-returns-clause-err
read_fields-returns-clause-err t c =
    let block = block_at c.args.depth c.loop-field.cursor.lines in
    let over : shapes_of (drop c.loop-field.field-index c.args.fields.now) ≡ shapes_of [] = ap shapes_of (drop_all c.loop-field.field-index c.args.fields.now c.loop-field-test.false) in
    let whole = sym c.loop-field.invariant.so_far ∙ ap (λ (fs : Fields). values_taken (fields_read fs block.0) block c.loop-field.draft c.loop-field.cursor) over in
    subst (λ (read : DraftOrBadLine). IfErr c.end_block.result (λ fault. IsTextFault fault read)) (sym whole) (fields_end c.args.depth c.loop-field.draft c.loop-field.cursor c.end_block.result c.end_block.ensures).err

-- ---- the value of a field

pub read_named-returns-in_default-clause-err : goal.read_named-returns-in_default-clause-err
read_named-returns-in_default-clause-err t c others =
    let block = block_at c.args.depth c.args.cursor.now.lines in
    bad_fault c.bad_line.result c.args.cursor.now.number _ c.bad_line.ensures (no_space (shape_of c.args.kind) (on_line c.args.kind (sym c.has_one_line.ensures ∙ c.if-has_one_line.true)) others (drop 1 block.0) c.args.value.now block c.args.draft.now c.args.cursor.now c.in_default.ensures)

pub read_named-returns-then-has_one_line-clause-ok : goal.read_named-returns-then-has_one_line-clause-ok
read_named-returns-then-has_one_line-clause-ok t c =
    let h = on_line c.args.kind (sym c.has_one_line.ensures ∙ c.if-has_one_line.true) in
    on_ok c.read_line.result _ _ (λ ok. (line_left (shape_of c.args.kind) h c.args.depth c.args.value.now c.in-Some.line.now c.args.draft.now c.args.cursor.now c.requires.some c.in-Some.ensures (c.read_line.new.draft, c.read_line.new.cursor) ok).goes) c.read_line.ensures.ok

pub read_named-returns-then-has_one_line-clause-begun : goal.read_named-returns-then-has_one_line-clause-begun
read_named-returns-then-has_one_line-clause-begun t c =
    let h = on_line c.args.kind (sym c.has_one_line.ensures ∙ c.if-has_one_line.true) in
    on_ok c.read_line.result _ _ (λ ok. (line_left (shape_of c.args.kind) h c.args.depth c.args.value.now c.in-Some.line.now c.args.draft.now c.args.cursor.now c.requires.some c.in-Some.ensures (c.read_line.new.draft, c.read_line.new.cursor) ok).levels) c.read_line.ensures.ok

pub read_named-returns-then-has_one_line-clause-err : goal.read_named-returns-then-has_one_line-clause-err
read_named-returns-then-has_one_line-clause-err t c =
    let s = shape_of c.args.kind in
    let h = on_line c.args.kind (sym c.has_one_line.ensures ∙ c.if-has_one_line.true) in
    let block = block_at c.args.depth c.args.cursor.now.lines in
    let line = draft_and_cursor_after_line (line_read s c.in-Some.line.now) c.args.draft.now c.args.cursor.now in
    if_err c.read_line.result (λ fault. IsTextFault fault line) (λ fault. (others : List Line → ResultOrBadLine Plains) → IsTextFault fault (values_taken (named_read s others (drop 1 block.0) c.args.value.now) block c.args.draft.now c.args.cursor.now))
    (λ fault bad others. same_fault fault line (values_taken (named_read s others (drop 1 block.0) c.args.value.now) block c.args.draft.now c.args.cursor.now)
    (λ n e. line_bad s h others (drop 1 block.0) c.args.value.now c.in-Some.line.now block c.args.draft.now c.args.cursor.now n c.in-Some.ensures e) bad) c.read_line.ensures.err

pub read_named-returns-then-not-is_empty-clause-err : goal.read_named-returns-then-not-is_empty-clause-err
read_named-returns-then-not-is_empty-clause-err t c others =
    let block = block_at c.args.depth c.args.cursor.now.lines in
    bad_fault c.bad_line-then-not-is_empty.result c.args.cursor.now.number _ c.bad_line-then-not-is_empty.ensures (not_below (shape_of c.args.kind) (below_name c.args.kind (sym c.has_one_line.ensures ∙ c.if-has_one_line.false)) others (drop 1 block.0) c.args.value.now block c.args.draft.now c.args.cursor.now (some_line c.args.value.now c.if-not-is_empty.ensures))

pub read_named-returns-clause-ok : goal.read_named-returns-clause-ok
read_named-returns-clause-ok t c =
    let s = shape_of c.args.kind in
    let h = below_name c.args.kind (sym c.has_one_line.ensures ∙ c.if-has_one_line.false) in
    on_ok c.read_block.result _ _ (λ ok. (below_left s h c.args.depth c.args.value.now c.args.draft.now c.args.cursor.now c.requires.some (empty_line c.args.value.now c.if-not-is_empty.ensures) (c.read_block.new.draft, c.read_block.new.cursor)
    (subst (λ (p : CursorState). block_taken (block_read s (block_at (c.args.depth + 1) p.lines).0) (block_at (c.args.depth + 1) p.lines) c.args.draft.now p ≡ taken c.read_block.new.draft c.read_block.new.cursor) c.turn.ensures ok)).goes) c.read_block.ensures.ok

pub read_named-returns-clause-err : goal.read_named-returns-clause-err
read_named-returns-clause-err t c =
    let s = shape_of c.args.kind in
    let h = below_name c.args.kind (sym c.has_one_line.ensures ∙ c.if-has_one_line.false) in
    let block = block_at c.args.depth c.args.cursor.now.lines in
    let inner = block_at (c.args.depth + 1) c.turn.new.self.lines in
    let read = block_taken (block_read s inner.0) inner c.args.draft.now c.turn.new.self in
    if_err c.read_block.result (λ fault. IsTextFault fault read) (λ fault. (others : List Line → ResultOrBadLine Plains) → IsTextFault fault (values_taken (named_read s others (drop 1 block.0) c.args.value.now) block c.args.draft.now c.args.cursor.now))
    (λ fault bad others. same_fault fault read (values_taken (named_read s others (drop 1 block.0) c.args.value.now) block c.args.draft.now c.args.cursor.now)
    (λ n e. below_bad s h c.args.depth c.args.value.now c.args.draft.now c.args.cursor.now c.requires.some (empty_line c.args.value.now c.if-not-is_empty.ensures) n
    (subst (λ (p : CursorState). block_taken (block_read s (block_at (c.args.depth + 1) p.lines).0) (block_at (c.args.depth + 1) p.lines) c.args.draft.now p ≡ Err n) c.turn.ensures e) others) bad) c.read_block.ensures.err

-- ---- objects

pub read_object-returns-in_default-clause-err : goal.read_object-returns-in_default-clause-err
read_object-returns-in_default-clause-err t c =
    bad_fault c.bad_line.result c.args.cursor.now.number _ c.bad_line.ensures (none_taken (shape_of (Obj c.args.which)) c.args.depth c.args.draft.now c.args.cursor.now c.in_default.ensures)

pub read_object-returns-in_err-read_fields-clause-err : goal.read_object-returns-in_err-read_fields-clause-err
read_object-returns-in_err-read_fields-clause-err t c =
    let block = block_at c.args.depth c.args.cursor.now.lines in
    let whole = block_taken (block_read (shape_of (Obj c.args.which)) block.0) block c.args.draft.now c.args.cursor.now in
    let read = fields_read (shapes_of c.fields_of.result.now) block.0 in
    handed_on c.from_residual-in_err-read_fields.result c.in_err-read_fields.field-0.0 (λ (fault : GenFault). IsTextFault fault whole) (err_from_is_err_and c.from_residual-in_err-read_fields.result c.from_residual-in_err-read_fields.ensures.1)
    (same_fault c.in_err-read_fields.field-0.0 (values_taken read block c.open_list.new.self c.args.cursor.now) whole
    (λ n e. ap (λ (r : ResultOrBadLine Plain). block_taken r block c.args.draft.now c.args.cursor.now) (table_read c.args.which block.0)
    ∙ list_bad (fields_read (shapes_of (table c.args.which)) block.0) object_or_bad_line_if_empty block c.args.draft.now c.open_list.new.self c.args.cursor.now n (subst (λ (fs : List Field). values_taken (fields_read (shapes_of fs) block.0) block c.open_list.new.self c.args.cursor.now ≡ Err n) c.fields_of.ensures e))
    c.in_err-read_fields.ensures.err)

pub read_object-returns-clause-ok : goal.read_object-returns-clause-ok
read_object-returns-clause-ok t c =
    let block = block_at c.args.depth c.args.cursor.now.lines in
    let read = fields_read (shapes_of (table c.args.which)) block.0 in
    ap (λ (r : ResultOrBadLine Plain). block_taken r block c.args.draft.now c.args.cursor.now) (table_read c.args.which block.0)
    ∙ list_closed read object_or_bad_line_if_empty trimmed_object_or_null block c.args.draft.now c.args.cursor.now (object_made (shapes_of (table c.args.which)) block.0 c.in-Some._line.now c.in-Some.ensures) (c.read_fields.new.draft, c.read_fields.new.cursor)
    (subst (λ (d : DraftState). values_taken read block d c.args.cursor.now ≡ taken c.read_fields.new.draft c.read_fields.new.cursor) c.in_ok-open_list.ensures.ok
    (subst (λ (fs : List Field). values_taken (fields_read (shapes_of fs) block.0) block c.open_list.new.self c.args.cursor.now ≡ taken c.read_fields.new.draft c.read_fields.new.cursor) c.fields_of.ensures c.in_ok-read_fields.ensures.ok))
    c.close_object.new.self c.in_ok-close_object.ensures.ok
