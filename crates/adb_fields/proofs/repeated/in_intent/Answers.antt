-- The writes stand after the removals.
use Rattle.std.proofs.Common.{ℕ, ◌≡◌, ◌+◌, ◌++◌, List, map, length, arith, ap, ◌∙◌}
use Rattle.std.proofs.lemmas.List.{length-map}
use Rattle.std.specs.Vec.{vec_len}
use Rattle.adb_view.specs.Adb.{payload_of}
use Rattle.adb_view.specs.Entries.{array_entries}
use Rattle.adb_view.specs.Plain.{Plain}
use Rattle.adb_view.specs.Values.{value_at, text_in, entries_in, entry_at_index, count_of}
use Rattle.adb_fields.specs.Pairs.{least_pair_of_equal_names}
use Rattle.adb_view.specs.FieldIndexes.{INTENT_WRITES_INDEX}
use Rattle.adb_fields.specs.Repeated.{place_in_causes_of_field_at_index, numbered_from, list_of, repeated_cause}
use Rattle.adb_fields.specs.NamedTexts.{joined_name_with_position, plains_of_array_words}
use Rattle.adb_view.specs.declared.tables.Kind.TheVariants as Kinds
use Rattle.adb_view.specs.declared.tables.Which.TheVariants as Tables
use Rattle.adb_fields.proofs.FieldReads.{entry_count}
use Rattle.adb_fields.proofs.FirstKinds.{texts_after}
use Rattle.adb_fields.proofs.NameLists.{plain_count}
use Rattle.adb_fields.proofs.repeated.in_intent.Goals as goal

pub add_texts-requires-clause-few : goal.add_texts-requires-clause-few
add_texts-requires-clause-few c =
    let one : length (array_entries c.texts_field-removals.result) ≡ count_of (entries_in (entry_at_index (value_at (payload_of c.args.adb) (Kinds.Obj Tables.Intent) c.args.intent) 0)) =
    entry_count (payload_of c.args.adb) Kinds.Text (array_entries c.texts_field-removals.result) c.texts_field-removals.ensures.sound
    ∙ ap (λ (v : Plain). count_of (entries_in v)) c.texts_field-removals.ensures.value in
    let few = c.requires.few in omega arith

pub add_texts-requires-2-clause-few : goal.add_texts-requires-2-clause-few
add_texts-requires-2-clause-few c =
    let one : length (array_entries c.texts_field-removals.result) ≡ count_of (entries_in (entry_at_index (value_at (payload_of c.args.adb) (Kinds.Obj Tables.Intent) c.args.intent) 0)) =
    entry_count (payload_of c.args.adb) Kinds.Text (array_entries c.texts_field-removals.result) c.texts_field-removals.ensures.sound
    ∙ ap (λ (v : Plain). count_of (entries_in v)) c.texts_field-removals.ensures.value in
    let two : length (array_entries c.texts_field-writes.result) ≡ count_of (entries_in (entry_at_index (value_at (payload_of c.args.adb) (Kinds.Obj Tables.Intent) c.args.intent) 1)) =
    entry_count (payload_of c.args.adb) Kinds.Text (array_entries c.texts_field-writes.result) c.texts_field-writes.ensures.sound
    ∙ ap (λ (v : Plain). count_of (entries_in v)) c.texts_field-writes.ensures.value in
    let few = c.requires.few in let l = c.in_ok-add_texts.ensures.len in omega arith

pub returns : goal.returns
returns c =
    let p : List ℕ = payload_of c.args.adb in
    let front : List (List ℕ) = map text_in (plains_of_array_words p Kinds.Text (array_entries c.texts_field-removals.result)) in
    let back : List (List ℕ) = map text_in (plains_of_array_words p Kinds.Text (array_entries c.texts_field-writes.result)) in
    let one : map joined_name_with_position c.add_texts.new.names.items ≡ numbered_from 1 front =
    c.in_ok-add_texts.ensures.added ∙ (λ i. map joined_name_with_position (c.new-names.ensures.items i) ++ numbered_from (c.new-names.ensures.len i + 1) front) in
    let count : length front ≡ length (array_entries c.texts_field-removals.result) = length-map (plains_of_array_words p Kinds.Text (array_entries c.texts_field-removals.result)) text_in ∙ plain_count p Kinds.Text (array_entries c.texts_field-removals.result) c.texts_field-removals.ensures.sound in
    let long : vec_len c.add_texts.new.names ≡ length front = (let l = c.in_ok-add_texts.ensures.len in omega arith) in
    let all : map joined_name_with_position c.add_texts-2.new.names.items ≡ numbered_from 1 (front ++ back) = texts_after front back _ _ (vec_len c.add_texts.new.names) one long c.in_ok-add_texts-2.ensures.added in
    c.repeated_cause.ensures
    ∙ ap (repeated_cause (place_in_causes_of_field_at_index Tables.Intent INTENT_WRITES_INDEX)) (c.least_pair_of_equal_names.ensures
    ∙ ap least_pair_of_equal_names (ap (map joined_name_with_position) c.deref_mut.ensures.value ∙ (all
    ∙ (λ i. numbered_from 1 (map text_in (list_of (entries_in (c.texts_field-removals.ensures.value i))) ++ map text_in (list_of (entries_in (c.texts_field-writes.ensures.value i))))))))
