use Rattle.std.proofs.Common.{subst, ℕ, ◌<◌, ◌+◌, ◌*◌, get_or, length, Option, refl, sym, ap, ◌∙◌, arith}
use Rattle.adb_view.specs.Adb.{payload_of}
use Rattle.adb_view.specs.Entries.{array_entries}
use Rattle.adb_fields.specs.Fields.{IsFieldOf}
use Rattle.adb_view.specs.Schema.{shape_of, shapes_of, table}
use Rattle.adb_schema.specs.Surroundings.{surroundings_of}
use Rattle.base_core.specs.declared.cause.Cause.{Cause}
use Rattle.base_core.specs.declared.cause.Cause.TheVariants.{BadText}
use Rattle.adb_schema.specs.TextRules.{text_at}
use Rattle.adb_schema.specs.TextWalk.{bad_text_at}
use Rattle.adb_schema.specs.Texts.{field_leaves, first_bad_leaf, leaves}
use Rattle.adb_view.specs.Values.{entries_in, text_in, value_at}
use Rattle.adb_view.specs.declared.tables.Kind.TheVariants.{Int, Obj}
use Rattle.adb_view.specs.declared.tables.Field.{Field}
use Rattle.adb_view.specs.declared.tables.FieldName.TheVariants.{Name}
use Rattle.adb_schema.proofs.TextSteps.{after_good, before_good, entry_sound, others_sound, entry_good, entry_bad, entries_end, field_sound_of, field_good_of, field_bad_of, field_below, fields_end, behind, int_done, text_done, hash_done, texts_done, objects_done, object_done, behind-zero, hash_is_text}
use Rattle.adb_schema.proofs.text_walk.+check.Goals as goal

pub check_entries-check_value-requires : goal.check_entries-check_value-requires
check_entries-check_value-requires t c = (
  omega arith,
  (entry_sound (payload_of c.args.adb) c.args.kind (array_entries c.args.entries) c.loop-i.i c.entry_word-word.result (omega arith) c.loop-i.invariant.sound c.entry_word-word.ensures, ap payload_of c.loop-i.invariant.payload ∙ c.requires.payload),
)

pub check_entries-returns-in-Some-clause-place : goal.check_entries-returns-in-Some-clause-place
check_entries-returns-in-Some-clause-place t c =
    let bad = entry_bad (payload_of c.args.adb) c.args.kind (leaves (shape_of c.args.kind) c.args.field_place_in_causes (surroundings_of c.args.around.now)) (array_entries c.args.entries) c.loop-i.i c.entry_word-word.result (BadText c.in-Some.place) (omega arith) c.loop-i.invariant.sound c.entry_word-word.ensures (rw c.in-Some.is at c.in_ok-place.ensures.place) in
    sym bad ∙ c.loop-i.invariant.so_far

pub check_entries-loop-i-preserved-then-is_same_as_before : goal.check_entries-loop-i-preserved-then-is_same_as_before
check_entries-loop-i-preserved-then-is_same_as_before t c =
    let words = array_entries c.args.entries in
    let bad : ℕ → Option Cause = λ w. first_bad_leaf (leaves (shape_of c.args.kind) c.args.field_place_in_causes (surroundings_of c.args.around.now) (value_at (payload_of c.args.adb) c.args.kind w)) in
    let within : c.loop-i.i < length words = omega (arith, c.len-i-end.ensures.value, c.loop-i-test.true) in
    let good = before_good bad words c.loop-i.i c.if-is_same_as_before.ensures c.loop-i.invariant.before in
    record {
      payload = c.loop-i.invariant.payload;
      sound = others_sound (payload_of c.args.adb) c.args.kind words c.loop-i.i within c.loop-i.invariant.sound;
      so_far = sym (entry_good (payload_of c.args.adb) c.args.kind (leaves (shape_of c.args.kind) c.args.field_place_in_causes (surroundings_of c.args.around.now)) words c.loop-i.i (get_or words c.loop-i.i 0) within c.loop-i.invariant.sound refl good) ∙ c.loop-i.invariant.so_far;
      before = after_good bad words c.loop-i.i (get_or words c.loop-i.i 0) refl good;
    }

pub check_entries-loop-i-preserved : goal.check_entries-loop-i-preserved
check_entries-loop-i-preserved t c = record {
  payload = c.check_value.ensures.payload ∙ c.loop-i.invariant.payload;
  sound = others_sound (payload_of c.args.adb) c.args.kind (array_entries c.args.entries) c.loop-i.i (omega arith) c.loop-i.invariant.sound;
  so_far =
      sym (entry_good (payload_of c.args.adb) c.args.kind (leaves (shape_of c.args.kind) c.args.field_place_in_causes (surroundings_of c.args.around.now)) (array_entries c.args.entries) c.loop-i.i c.entry_word-word.result (omega arith) c.loop-i.invariant.sound c.entry_word-word.ensures (sym (ap bad_text_at c.in_default.is) ∙ c.in_ok-place.ensures.place))
      ∙ c.loop-i.invariant.so_far;
  before = after_good (λ w. first_bad_leaf (leaves (shape_of c.args.kind) c.args.field_place_in_causes (surroundings_of c.args.around.now) (value_at (payload_of c.args.adb) c.args.kind w))) (array_entries c.args.entries) c.loop-i.i c.entry_word-word.result c.entry_word-word.ensures (sym (ap bad_text_at c.in_default.is) ∙ c.in_ok-place.ensures.place);
}

pub check_entries-returns-clause-place : goal.check_entries-returns-clause-place
check_entries-returns-clause-place t c = sym (entries_end (payload_of c.args.adb) c.args.kind (leaves (shape_of c.args.kind) c.args.field_place_in_causes (surroundings_of c.args.around.now)) (array_entries c.args.entries) c.loop-i.i (omega arith)) ∙ c.loop-i.invariant.so_far

pub check_fields-loop-i-init : goal.check_fields-loop-i-init
check_fields-loop-i-init t c = record {
  payload = refl;
  field_place_in_causes = omega arith;
  so_far =
      ap (λ vs. first_bad_leaf (field_leaves (shapes_of (table c.args.which)) (100 * c.number_of-field_place_in_causes.result + 1) (surroundings_of c.args.around.now) vs)) (behind-zero (entries_in (value_at (payload_of c.args.adb) (Obj c.args.which) c.args.object)))
      ∙ ap (λ (n : ℕ). first_bad_leaf (field_leaves (shapes_of (table c.args.which)) (100 * n + 1) (surroundings_of c.args.around.now) (entries_in (value_at (payload_of c.args.adb) (Obj c.args.which) c.args.object)))) c.number_of-field_place_in_causes.ensures.value;
}

pub check_fields-check_value-requires : goal.check_fields-check_value-requires
check_fields-check_value-requires t c =
    let below = field_below c.args.which c.loop-i.i (record { name = Name; kind = Int }) c.fields_of-field-items.result.now c.fields_of-field-items.ensures (omega arith) in (
      omega arith,
      (field_sound_of (payload_of c.args.adb) c.args.which c.args.object c.loop-i.i c.word_or_null-word.result (record { name = Name; kind = Int }) c.fields_of-field-items.result.now c.fields_of-field-items.ensures (omega arith) (subst (IsFieldOf (payload_of c.args.adb) c.args.which c.args.object c.loop-i.i) (sym c.word_or_null-word.ensures) (c.object_words-words.ensures c.loop-i.i)), ap payload_of c.loop-i.invariant.payload ∙ c.requires.payload),
    )

pub check_fields-returns-in-Some-clause-place : goal.check_fields-returns-in-Some-clause-place
check_fields-returns-in-Some-clause-place t c =
    let bad = field_bad_of (payload_of c.args.adb) c.args.which c.args.object c.loop-i.i c.word_or_null-word.result (record { name = Name; kind = Int }) (c.loop-i.field_place_in_causes + 1) (surroundings_of c.args.around.now) (BadText c.in-Some.place) c.fields_of-field-items.result.now c.fields_of-field-items.ensures (omega arith) (subst (IsFieldOf (payload_of c.args.adb) c.args.which c.args.object c.loop-i.i) (sym c.word_or_null-word.ensures) (c.object_words-words.ensures c.loop-i.i)) (rw c.in-Some.is at c.in_ok-place.ensures.place) in
    sym bad ∙ c.loop-i.invariant.so_far

pub check_fields-loop-i-preserved-then-not-has_rule : goal.check_fields-loop-i-preserved-then-not-has_rule
check_fields-loop-i-preserved-then-not-has_rule t c =
    let p = payload_of c.args.adb in
    let d : Field = record { name = Name; kind = Int } in
    let word = get_or (array_entries c.object_words-words.result) c.loop-i.i 0 in
    let field = c.object_words-words.ensures c.loop-i.i in
    let free = c.has_rule.ensures c.if-not-has_rule.true (surroundings_of c.args.around.now) (value_at p (get_or c.fields_of-field-items.result.now c.loop-i.i d).kind word) in
    record {
      payload = c.loop-i.invariant.payload;
      field_place_in_causes = omega arith;
      so_far =
          sym (field_good_of p c.args.which c.args.object c.loop-i.i word d (c.loop-i.field_place_in_causes + 1) (surroundings_of c.args.around.now) c.fields_of-field-items.result.now c.fields_of-field-items.ensures (omega arith) field (sym free))
          ∙ c.loop-i.invariant.so_far;
    }

pub check_fields-loop-i-preserved : goal.check_fields-loop-i-preserved
check_fields-loop-i-preserved t c = record {
  payload = c.check_value.ensures.payload ∙ c.loop-i.invariant.payload;
  field_place_in_causes = omega arith;
  so_far =
      sym (field_good_of (payload_of c.args.adb) c.args.which c.args.object c.loop-i.i c.word_or_null-word.result (record { name = Name; kind = Int }) (c.loop-i.field_place_in_causes + 1) (surroundings_of c.args.around.now) c.fields_of-field-items.result.now c.fields_of-field-items.ensures (omega arith) (subst (IsFieldOf (payload_of c.args.adb) c.args.which c.args.object c.loop-i.i) (sym c.word_or_null-word.ensures) (c.object_words-words.ensures c.loop-i.i)) (sym (ap bad_text_at c.in_default.is) ∙ c.in_ok-place.ensures.place))
      ∙ c.loop-i.invariant.so_far;
}

pub check_fields-returns-clause-place : goal.check_fields-returns-clause-place
check_fields-returns-clause-place t c =
    sym (fields_end (table c.args.which) (c.loop-i.field_place_in_causes + 1) (surroundings_of c.args.around.now) (behind c.loop-i.i (entries_in (value_at (payload_of c.args.adb) (Obj c.args.which) c.args.object))) c.loop-i.i (omega (arith, ap length c.fields_of-field-items.ensures)))
    ∙ c.loop-i.invariant.so_far

pub check_value-returns-in-Int-clause-place : goal.check_value-returns-in-Int-clause-place
check_value-returns-in-Int-clause-place t c = int_done (payload_of c.args.adb) c.args.kind c.args.field_place_in_causes (surroundings_of c.args.around.now) c.args.word c.int_word.result _ c.in-Int.is c.int_word.ensures c.check_number.ensures

pub check_value-returns-in-Text-clause-place : goal.check_value-returns-in-Text-clause-place
check_value-returns-in-Text-clause-place t c = text_done (payload_of c.args.adb) c.args.kind c.args.field_place_in_causes (surroundings_of c.args.around.now) c.args.word c.text_word.result.now _ c.in-Text.is c.text_word.ensures c.check_text.ensures.place

pub check_value-returns-in-Hash-clause-place : goal.check_value-returns-in-Hash-clause-place
check_value-returns-in-Hash-clause-place t c = hash_done (payload_of c.args.adb) c.args.kind c.args.field_place_in_causes (surroundings_of c.args.around.now) c.args.word c.hash_word.result.now _ c.in-Hash.is c.hash_word.ensures c.check_text-in-Hash.ensures.place

pub check_value-returns-in-TextArr-clause-place : goal.check_value-returns-in-TextArr-clause-place
check_value-returns-in-TextArr-clause-place t c = texts_done (payload_of c.args.adb) c.args.kind c.args.field_place_in_causes (surroundings_of c.args.around.now) c.args.word (array_entries c.texts_word-texts.result) _ c.in-TextArr.is c.texts_word-texts.ensures.value c.check_entries.ensures.place

pub check_value-returns-in-ObjArr-clause-place : goal.check_value-returns-in-ObjArr-clause-place
check_value-returns-in-ObjArr-clause-place t c = objects_done (payload_of c.args.adb) c.args.kind c.in-ObjArr.which c.args.field_place_in_causes (surroundings_of c.args.around.now) c.args.word (array_entries c.objects_word-objects.result) _ c.in-ObjArr.is c.objects_word-objects.ensures.value c.check_entries-in-ObjArr.ensures.place

pub check_value-returns-in-Obj-clause-place : goal.check_value-returns-in-Obj-clause-place
check_value-returns-in-Obj-clause-place t c = object_done (payload_of c.args.adb) c.args.kind c.in-Obj.which c.args.field_place_in_causes (surroundings_of c.args.around.now) (surroundings_of c.inside-inside.result) c.args.word _ c.in-Obj.is c.inside-inside.ensures c.check_fields.ensures.place

pub check_value-check_text-requires-in-Hash : goal.check_value-check_text-requires-in-Hash
check_value-check_text-requires-in-Hash t c = c.hash_word.ensures ∙ ap text_in (hash_is_text (payload_of c.args.adb) c.args.word) ∙ ap (λ p. text_at p c.args.word) (sym c.requires.payload)
