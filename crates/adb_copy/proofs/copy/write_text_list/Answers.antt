use Rattle.std.proofs.Common.{◌≡◌, ◌<◌, ℕ, List, length, arith, refl, ap, sym, ◌∙◌}
use Rattle.adb_view.specs.Adb.{payload_of}
use Rattle.adb_view.specs.Entries.{array_entries}
use Rattle.adb_view.specs.Plain.{Plain, Plains, array_or_null}
use Rattle.adb_view.specs.Values.{entries_in, value_at}
use Rattle.adb_view.specs.declared.tables.Kind.{Kind}
use Rattle.adb_view.specs.declared.tables.Kind.TheVariants as Kinds
use Rattle.adb_fields.specs.Fields.{array_at}
use Rattle.adb_fields.proofs.FieldReads.{entry_count}
use Rattle.adb_values.specs.Drafts.{draft_with, draft_with_all, draft_with_open_list}
use Rattle.adb_values.proofs.Lists.{closed_as, on_ok}
use Rattle.adb_copy.specs.Zeros.{all_without_zeros, without_zeros}
use Rattle.adb_copy.proofs.Known.{known_closed_array, known_opened}
use Rattle.adb_copy.proofs.Lists.{zeros_given, zeros_left}
use Rattle.adb_copy.proofs.ReadWords.{text_value, word_sound, word_value, word_within}
use Rattle.adb_copy.proofs.Shapes.{array_shape}
use Rattle.adb_copy.proofs.Zeros.{zeros_array}
use Rattle.adb_copy.proofs.copy.write_text_list.Goals as goal

pub write-requires-clause-sound : goal.write-requires-clause-sound
write-requires-clause-sound c =
    let p : List ℕ = payload_of c.args.adb in
    let ws : List ℕ = array_entries c.args.texts in
    let within : c.loop-i.i < length ws = omega (arith, c.len-i-end.ensures.value, c.loop-i-test.true) in
    word_sound p Kinds.Text ws c.loop-i.i c.entry_word.result c.requires.sound within c.entry_word.ensures

pub write-requires-clause-known : goal.write-requires-clause-known
write-requires-clause-known c = c.loop-i.invariant.known

pub loop-i-init : goal.loop-i-init
loop-i-init c = record {
  left = refl;
  known = known_opened (payload_of c.args.adb) c.args.known.now c.args.draft.now c.open_list.new.self c.requires.known c.in_ok-open_list.ensures.ok;
}

pub loop-i-preserved : goal.loop-i-preserved
loop-i-preserved c =
    let p : List ℕ = payload_of c.args.adb in
    let k : Kind = Kinds.Text in
    let ws : List ℕ = array_entries c.args.texts in
    let values : Plains = entries_in (array_at p k ws) in
    let word : ℕ = c.entry_word.result in
    let within : c.loop-i.i < length ws = omega (arith, c.len-i-end.ensures.value, c.loop-i-test.true) in
    record {
      left =
          zeros_left c.loop-i.i values (value_at p k word) _ _ _ (word_within p k ws c.loop-i.i word c.requires.sound within c.entry_word.ensures)
          (word_value p k ws c.loop-i.i word c.requires.sound within c.entry_word.ensures) c.loop-i.invariant.left
          (c.in_ok-write.ensures.text
          ∙ ap (λ (v : Plain). draft_with v c.loop-i.draft) (sym (text_value c.values_have_their_shape.ensures.word p word)));
      known = c.in_ok-write.ensures.known;
    }

pub returns-clause-texts : goal.returns-clause-texts
returns-clause-texts c =
    let p : List ℕ = payload_of c.args.adb in
    let ws : List ℕ = array_entries c.args.texts in
    let v : Plain = array_at p Kinds.Text ws in
    closed_as array_or_null (without_zeros v) (all_without_zeros (entries_in v)) c.args.draft.now _ _ c.close_array.result
    (zeros_array _ v (array_shape c.values_have_their_shape.ensures.word p Kinds.Text ws)) c.close_array.ensures.ok
    (zeros_given c.loop-i.i (entries_in v) _ _ _ (omega (arith, c.len-i-end.ensures.value, c.loop-i-test.false, c.loop-i.auto.i-end, entry_count p Kinds.Text ws c.requires.sound)) c.loop-i.invariant.left c.in_ok-open_list.ensures.ok)

pub returns-clause-known : goal.returns-clause-known
returns-clause-known c =
    let p : List ℕ = payload_of c.args.adb in
    let ws : List ℕ = array_entries c.args.texts in
    let v : Plain = array_at p Kinds.Text ws in
    let given : c.loop-i.draft ≡ draft_with_all (all_without_zeros (entries_in v)) (draft_with_open_list c.args.draft.now) =
    zeros_given c.loop-i.i (entries_in v) _ _ _ (omega (arith, c.len-i-end.ensures.value, c.loop-i-test.false, c.loop-i.auto.i-end, entry_count p Kinds.Text ws c.requires.sound)) c.loop-i.invariant.left c.in_ok-open_list.ensures.ok in
    on_ok _ _ (λ closed. known_closed_array p c.loop-i.known c.loop-i.draft c.close_array.new.self c.loop-i.invariant.known (all_without_zeros (entries_in v)) c.args.draft.now given (closed (all_without_zeros (entries_in v)) c.args.draft.now given))
    c.close_array.result c.close_array.ensures.ok
