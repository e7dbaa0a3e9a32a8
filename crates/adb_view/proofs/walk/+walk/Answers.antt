use Rattle.std.proofs.Common.{◌≤◌, ◌<◌, ◌+◌, ℕ, List, length, refl, sym, ap, subst, ◌∙◌}
use Rattle.adb_view.specs.Adb.{payload_of}
use Rattle.adb_view.specs.Entries.{array_entries}
use Rattle.adb_view.specs.Schema.{shape_of, shapes_of}
use Rattle.adb_view.specs.Visits.{MOST_VALUES}
use Rattle.adb_view.specs.CountedWalk.{fields_walk, walk}
use Rattle.adb_view.specs.declared.tables.Field.{Field}
use Rattle.adb_view.specs.declared.tables.Kind.{Kind}
use Rattle.adb_view.specs.declared.tables.Kind.TheVariants as Kinds
use Rattle.adb_view.proofs.WalkSteps.{texts_ok, texts_err, objects_ok, objects_err, object_ok, object_err, room, room_left, below, leaf_ok, leaf_err, each_done, entry_stops, entry_more, text_more, below_both, field_stops, field_more, leaf_more}
use Rattle.adb_view.proofs.walk.+walk.Goals.{walk_texts-then-count-lt-MOST_VALUES+then-is_sound_leaf, walk_texts-else-count-lt-MOST_VALUES+in_ok-count, walk_fields_from-then-count-lt-MOST_VALUES+then-is_sound_leaf, walk_fields_from-else-count-lt-MOST_VALUES+in_ok-count}
use Rattle.adb_view.proofs.walk.+walk.Goals as goal

pub walk_value-returns-in-None-clause-exact : goal.walk_value-returns-in-None-clause-exact
walk_value-returns-in-None-clause-exact t c = leaf_ok (payload_of c.args.adb) c.args.kind c.args.before c.args.word c.in-Int.is (room _ c.if-count-gt-MOST_VALUES.false) c.in-None.ensures

pub walk_value-returns-in-Some-clause-exact : goal.walk_value-returns-in-Some-clause-exact
walk_value-returns-in-Some-clause-exact t c = leaf_err (payload_of c.args.adb) c.args.kind c.args.before c.args.word _ c.in-Int.is (room _ c.if-count-gt-MOST_VALUES.false) c.in-Some.ensures

pub walk_value-returns-in-Ok-clause-exact : goal.walk_value-returns-in-Ok-clause-exact
walk_value-returns-in-Ok-clause-exact t c =
    c.walk_texts.ensures.exact
    ∙ sym (texts_ok (payload_of c.args.adb) c.args.before c.args.word _ (room _ c.if-count-gt-MOST_VALUES.false) c.in-Ok.ensures)
    ∙ ap (λ (kind : Kind). walk (payload_of c.args.adb) (shape_of kind) c.args.before c.args.word) (sym c.in-TextArr.is)

pub walk_value-returns-in-Err-clause-exact : goal.walk_value-returns-in-Err-clause-exact
walk_value-returns-in-Err-clause-exact t c =
    sym (texts_err (payload_of c.args.adb) c.args.before c.args.word _ (room _ c.if-count-gt-MOST_VALUES.false) c.in-Err.ensures)
    ∙ ap (λ (kind : Kind). walk (payload_of c.args.adb) (shape_of kind) c.args.before c.args.word) (sym c.in-TextArr.is)

pub walk_value-returns-in-Ok-read_entries-clause-exact : goal.walk_value-returns-in-Ok-read_entries-clause-exact
walk_value-returns-in-Ok-read_entries-clause-exact t c =
    c.walk_objects.ensures.exact
    ∙ sym (objects_ok (payload_of c.args.adb) c.in-ObjArr.which c.args.before c.args.word _ (room _ c.if-count-gt-MOST_VALUES.false) c.in-Ok-read_entries.ensures)
    ∙ ap (λ (kind : Kind). walk (payload_of c.args.adb) (shape_of kind) c.args.before c.args.word) (sym c.in-ObjArr.is)

pub walk_value-returns-in-Err-read_entries-clause-exact : goal.walk_value-returns-in-Err-read_entries-clause-exact
walk_value-returns-in-Err-read_entries-clause-exact t c =
    sym (objects_err (payload_of c.args.adb) c.in-ObjArr.which c.args.before c.args.word _ (room _ c.if-count-gt-MOST_VALUES.false) c.in-Err-read_entries.ensures)
    ∙ ap (λ (kind : Kind). walk (payload_of c.args.adb) (shape_of kind) c.args.before c.args.word) (sym c.in-ObjArr.is)

pub walk_value-returns-in-Obj-clause-exact : goal.walk_value-returns-in-Obj-clause-exact
walk_value-returns-in-Obj-clause-exact t c =
    c.walk_object.ensures.exact ∙ ap (λ (kind : Kind). walk (payload_of c.args.adb) (shape_of kind) c.args.before c.args.word) (sym c.in-Obj.is)

pub walk_texts-returns-in_err-count-clause-exact : goal.walk_texts-returns-in_err-count-clause-exact
walk_texts-returns-in_err-count-clause-exact t c =
    let lt : c.loop-i.i < length (array_entries c.args.texts) = below _ _ _ c.loop-i-test.true c.len-i-end.ensures.value in
    entry_stops (walk (payload_of c.args.adb) (shape_of Kinds.Text)) c.loop-i.count (array_entries c.args.texts) c.loop-i.i c.entry_word-word.result _ c.from_residual.result _ lt c.entry_word-word.ensures c.in_err-count.ensures.exact c.loop-i.invariant.so_far c.from_residual.ensures.1

pub walk_texts-loop-i-preserved : goal.walk_texts-loop-i-preserved
walk_texts-loop-i-preserved t c =
    let p = payload_of c.args.adb in
    let ws = array_entries c.args.texts in
    let lt : c.loop-i.i < length ws = below _ _ _ c.loop-i-test.true c.len-i-end.ensures.value in
    elim c.if-count-lt-MOST_VALUES.branch [
      | walk_texts-then-count-lt-MOST_VALUES+then-is_sound_leaf w ↦ record {
        so_far = text_more p c.loop-i.count ws c.loop-i.i c.entry_word-word.result c.if-count-lt-MOST_VALUES.count w.is_sound_leaf.result _ lt c.entry_word-word.ensures w.if-count-lt-MOST_VALUES.true w.is_sound_leaf.ensures w.if-is_sound_leaf.true w.count-is c.loop-i.invariant.so_far;
        bound = room_left _ _ w.if-count-lt-MOST_VALUES.true w.count-is;
      }
      | walk_texts-else-count-lt-MOST_VALUES+in_ok-count w ↦ record {
        so_far = entry_more (walk p (shape_of Kinds.Text)) c.loop-i.count ws c.loop-i.i c.entry_word-word.result c.if-count-lt-MOST_VALUES.count _ _ lt c.entry_word-word.ensures w.in_ok-count.ensures.exact w.count-is c.loop-i.invariant.so_far;
        bound = subst (λ (n : ℕ). n ≤ MOST_VALUES) (sym w.count-is) w.in_ok-count.ensures.bound;
      }
    ]

pub walk_texts-returns-clause-exact : goal.walk_texts-returns-clause-exact
walk_texts-returns-clause-exact t c =
    sym (each_done (walk (payload_of c.args.adb) (shape_of Kinds.Text)) c.loop-i.count (array_entries c.args.texts) c.loop-i.i (subst (λ (n : ℕ). n ≤ c.loop-i.i) c.len-i-end.ensures.value c.loop-i-test.false))
    ∙ c.loop-i.invariant.so_far

pub walk_objects-returns-in_err-count-clause-exact : goal.walk_objects-returns-in_err-count-clause-exact
walk_objects-returns-in_err-count-clause-exact t c =
    let lt : c.loop-i.i < length (array_entries c.args.objects) = below _ _ _ c.loop-i-test.true c.len-i-end.ensures.value in
    entry_stops (walk (payload_of c.args.adb) (shape_of (Kinds.Obj c.args.which))) c.loop-i.count (array_entries c.args.objects) c.loop-i.i c.entry_word.result _ c.from_residual.result _ lt c.entry_word.ensures c.in_err-count.ensures.exact c.loop-i.invariant.so_far c.from_residual.ensures.1

pub walk_objects-loop-i-preserved : goal.walk_objects-loop-i-preserved
walk_objects-loop-i-preserved t c =
    let lt : c.loop-i.i < length (array_entries c.args.objects) = below _ _ _ c.loop-i-test.true c.len-i-end.ensures.value in
    record {
      so_far = entry_more (walk (payload_of c.args.adb) (shape_of (Kinds.Obj c.args.which))) c.loop-i.count (array_entries c.args.objects) c.loop-i.i c.entry_word.result c.in_ok-count.count _ _ lt c.entry_word.ensures c.in_ok-count.ensures.exact refl c.loop-i.invariant.so_far;
      bound = c.in_ok-count.ensures.bound;
    }

pub walk_objects-returns-clause-exact : goal.walk_objects-returns-clause-exact
walk_objects-returns-clause-exact t c =
    sym (each_done (walk (payload_of c.args.adb) (shape_of (Kinds.Obj c.args.which))) c.loop-i.count (array_entries c.args.objects) c.loop-i.i (subst (λ (n : ℕ). n ≤ c.loop-i.i) c.len-i-end.ensures.value c.loop-i-test.false))
    ∙ c.loop-i.invariant.so_far

pub walk_object-returns-in-Ok-clause-exact : goal.walk_object-returns-in-Ok-clause-exact
walk_object-returns-in-Ok-clause-exact t c =
    c.walk_each_field.ensures.exact
    ∙ ap (λ (fields : List Field). fields_walk (payload_of c.args.adb) (shapes_of fields) (c.args.before + 1) (array_entries c.in-Ok.entries)) c.fields_of.ensures
    ∙ sym (object_ok (payload_of c.args.adb) c.args.which c.args.before c.args.word _ (room _ c.if-count-gt-MOST_VALUES.false) c.in-Ok.ensures)

pub walk_object-returns-in-Err-clause-exact : goal.walk_object-returns-in-Err-clause-exact
walk_object-returns-in-Err-clause-exact t c =
    sym (object_err (payload_of c.args.adb) c.args.which c.args.before c.args.word _ (room _ c.if-count-gt-MOST_VALUES.false) c.in-Err.ensures)

pub walk_fields_from-returns-in_err-count-clause-exact : goal.walk_fields_from-returns-in_err-count-clause-exact
walk_fields_from-returns-in_err-count-clause-exact t c =
    field_stops (payload_of c.args.adb) c.args.fields.now c.loop-i.count (array_entries c.args.entries) c.loop-i.i c.entry_word-word.result _ _ c.from_residual.result _ (below_both _ _ _ _ _ c.loop-i-test.true c.min-i-end.ensures c.len.ensures.value) c.entry_word-word.ensures
    c.in_err-count.ensures.exact c.loop-i.invariant.so_far c.from_residual.ensures.1

pub walk_fields_from-loop-i-preserved : goal.walk_fields_from-loop-i-preserved
walk_fields_from-loop-i-preserved t c =
    let p = payload_of c.args.adb in
    let ws = array_entries c.args.entries in
    let lt = below_both c.loop-i.i c.min-i-end.result (length c.args.fields.now) c.len.result (length ws) c.loop-i-test.true c.min-i-end.ensures c.len.ensures.value in
    elim c.if-count-lt-MOST_VALUES.branch [
      | walk_fields_from-then-count-lt-MOST_VALUES+then-is_sound_leaf w ↦ record {
        so_far = leaf_more p c.args.fields.now c.loop-i.count ws c.loop-i.i c.entry_word-word.result _ c.if-count-lt-MOST_VALUES.count w.is_sound_leaf.result _ lt c.entry_word-word.ensures w.if-count-lt-MOST_VALUES.true w.is_sound_leaf.ensures w.if-is_sound_leaf.true w.count-is c.loop-i.invariant.so_far;
        bound = room_left _ _ w.if-count-lt-MOST_VALUES.true w.count-is;
      }
      | walk_fields_from-else-count-lt-MOST_VALUES+in_ok-count w ↦ record {
        so_far = field_more p c.args.fields.now c.loop-i.count ws c.loop-i.i c.entry_word-word.result _ c.if-count-lt-MOST_VALUES.count _ _ lt c.entry_word-word.ensures w.in_ok-count.ensures.exact w.count-is c.loop-i.invariant.so_far;
        bound = subst (λ (n : ℕ). n ≤ MOST_VALUES) (sym w.count-is) w.in_ok-count.ensures.bound;
      }
    ]
