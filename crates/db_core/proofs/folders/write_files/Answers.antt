use Rattle.std.proofs.Common.{◌≡◌, ℕ, List, ◌<◌, length, arith, ap, refl, sym, subst, ◌∙◌}
use Rattle.adb_view.specs.Adb.{payload_of}
use Rattle.adb_view.specs.Entries.{array_entries}
use Rattle.adb_copy.specs.adb_fields.Fields.{array_at}
use Rattle.adb_view.specs.declared.tables.Kind.TheVariants as Kinds
use Rattle.adb_view.specs.declared.tables.Which.TheVariants as Tables
use Rattle.adb_view.specs.Plain.{Plain, Plains, array_or_null}
use Rattle.adb_copy.specs.adb_fields.Repeated.{list_of}
use Rattle.adb_copy.proofs.adb_fields.FieldReads.{entry_count}
use Rattle.adb_view.specs.Values.{count_of, entries_in}
use Rattle.adb_copy.specs.adb_values.Drafts.{DraftState, draft_with, draft_with_all, draft_with_open_list}
use Rattle.adb_copy.proofs.adb_values.Lists.{closed, on_ok}
use Rattle.adb_copy.specs.Known.{AreRememberedBlobsOfDraft}
use Rattle.adb_copy.specs.Zeros.{without_zeros}
use Rattle.adb_copy.specs.declared.known_texts.KnownTexts.{KnownTexts}
use Rattle.adb_copy.proofs.Known.{known_closed_array, known_opened}
use Rattle.adb_copy.proofs.ReadWords.{word_sound, word_value}
use Rattle.db_core.specs.NewDatabase.{owned_entries_without_zeros}
use Rattle.db_core.proofs.Marking.{set_flags_of_all_listed_files, left_out, put_in}
use Rattle.db_core.proofs.folders.write_files.Goals.{then-is_set+in_ok-write_file, else-is_set}
use Rattle.db_core.proofs.folders.write_files.Goals as goal

pub write_file-requires-clause-sound : goal.write_file-requires-clause-sound
write_file-requires-clause-sound c =
    let ws : List ℕ = array_entries c.args.files in
    let within : c.loop-i.i < length ws = omega (arith, c.len-i-end.ensures.value, c.loop-i-test.true) in
    word_sound (payload_of c.args.adb) (Kinds.Obj Tables.File) ws c.loop-i.i c.entry_word.result c.requires.sound within c.entry_word.ensures

pub write_file-requires-clause-known : goal.write_file-requires-clause-known
write_file-requires-clause-known c = c.loop-i.invariant.known

pub loop-i-init : goal.loop-i-init
loop-i-init c = record {
  left = refl;
  known = known_opened (payload_of c.args.adb) c.args.known.now c.args.draft.now c.open_list.new.self c.requires.known c.in_ok-open_list.ensures.ok;
}

pub loop-i-preserved : goal.loop-i-preserved
loop-i-preserved c =
    let p : List ℕ = payload_of c.args.adb in
    let ws : List ℕ = array_entries c.args.files in
    let vs : Plains = entries_in (array_at p (Kinds.Obj Tables.File) ws) in
    let within : c.loop-i.i < length ws = omega (arith, c.len-i-end.ensures.value, c.loop-i-test.true) in
    let here : c.loop-i.i < count_of vs = omega (arith, within, entry_count p (Kinds.Obj Tables.File) ws c.requires.sound) in
    elim c.if-is_set.branch [
      | then-is_set+in_ok-write_file w ↦ record {
        left =
            put_in vs c.args.flags.now c.loop-i.i c.is_set.result _ _ _ here c.is_set.ensures w.if-is_set.true c.loop-i.invariant.left
            (w.draft-is ∙ w.in_ok-write_file.ensures.file ∙ ap (λ (v : Plain). draft_with (without_zeros v) c.loop-i.draft) (word_value p (Kinds.Obj Tables.File) ws c.loop-i.i w.entry_word.result c.requires.sound within w.entry_word.ensures));
        known =
            subst (λ (d : DraftState). AreRememberedBlobsOfDraft p d c.if-is_set.known) (sym w.draft-is)
            (subst (λ (t : KnownTexts). AreRememberedBlobsOfDraft p w.write_file.new.draft t) (sym w.known-is) w.in_ok-write_file.ensures.known);
      }
      | else-is_set w ↦ record {
        left = left_out vs c.args.flags.now c.loop-i.i c.is_set.result _ _ _ here c.is_set.ensures w.if-is_set.false c.loop-i.invariant.left w.draft-is;
        known = subst (λ (d : DraftState). AreRememberedBlobsOfDraft p d c.if-is_set.known) (sym w.draft-is) (subst (λ (t : KnownTexts). AreRememberedBlobsOfDraft p c.loop-i.draft t) (sym w.known-is) c.loop-i.invariant.known);
      }
    ]

pub returns : goal.returns
returns c =
    let p : List ℕ = payload_of c.args.adb in
    let ws : List ℕ = array_entries c.args.files in
    let vs : Plains = entries_in (array_at p (Kinds.Obj Tables.File) ws) in
    let owned : Plains = owned_entries_without_zeros (list_of vs) c.args.flags.now in
    let given : c.loop-i.draft ≡ draft_with_all owned (draft_with_open_list c.args.draft.now) =
    set_flags_of_all_listed_files vs c.args.flags.now c.loop-i.i _ _ _ (omega (arith, entry_count p (Kinds.Obj Tables.File) ws c.requires.sound, c.len-i-end.ensures.value, c.loop-i-test.false, c.loop-i.auto.i-end)) c.loop-i.invariant.left c.in_ok-open_list.ensures.ok in
    record {
      files = closed array_or_null owned c.args.draft.now _ _ c.close_array.result c.close_array.ensures.ok given;
      known =
          on_ok _ _ (λ closed. known_closed_array p c.loop-i.known c.loop-i.draft c.close_array.new.self c.loop-i.invariant.known owned c.args.draft.now given (closed owned c.args.draft.now given))
          c.close_array.result c.close_array.ensures.ok;
    }
