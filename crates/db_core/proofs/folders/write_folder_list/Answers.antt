use Rattle.std.proofs.Common.{◌≡◌, ℕ, List, ◌<◌, length, arith, refl}
use Rattle.adb_view.specs.Adb.{payload_of}
use Rattle.adb_view.specs.Entries.{array_entries}
use Rattle.adb_copy.specs.adb_fields.Fields.{array_at}
use Rattle.adb_view.specs.declared.tables.Kind.TheVariants as Kinds
use Rattle.adb_view.specs.declared.tables.Which.TheVariants as Tables
use Rattle.adb_view.specs.Plain.{Plains, array_or_null}
use Rattle.adb_copy.specs.adb_fields.Repeated.{list_of}
use Rattle.adb_view.specs.Values.{entries_in, value_at}
use Rattle.adb_copy.specs.adb_values.Drafts.{draft_with_all, draft_with_open_list}
use Rattle.adb_copy.proofs.adb_values.Lists.{closed, on_ok}
use Rattle.adb_copy.proofs.Known.{known_closed_array, known_opened}
use Rattle.adb_copy.proofs.ReadWords.{word_sound}
use Rattle.db_core.specs.NewDatabase.{folder_file_count, folder_in_new_database, folders_in_new_database}
use Rattle.db_core.proofs.Segments.{all_given, given_more}
use Rattle.db_core.proofs.Words.{word_listed, words_listed}
use Rattle.db_core.proofs.folders.write_folder_list.Goals as goal

pub write_folder-requires-clause-sound : goal.write_folder-requires-clause-sound
write_folder-requires-clause-sound c =
    let ws : List ℕ = array_entries c.args.folders in
    let within : c.loop-i.i < length ws = omega (arith, c.len-i-end.ensures.value, c.loop-i-test.true) in
    word_sound (payload_of c.args.adb) (Kinds.Obj Tables.Dir) ws c.loop-i.i c.entry_word-folder.result c.requires.sound within c.entry_word-folder.ensures

pub write_folder-requires-clause-known : goal.write_folder-requires-clause-known
write_folder-requires-clause-known c = c.loop-i.invariant.known

pub flags_after_folder-left-requires : goal.flags_after_folder-left-requires
flags_after_folder-left-requires c =
    let ws : List ℕ = array_entries c.args.folders in
    let within : c.loop-i.i < length ws = omega (arith, c.len-i-end.ensures.value, c.loop-i-test.true) in
    word_sound (payload_of c.args.adb) (Kinds.Obj Tables.Dir) ws c.loop-i.i c.entry_word-folder.result c.requires.sound within c.entry_word-folder.ensures

pub loop-i-init : goal.loop-i-init
loop-i-init c = record {
  left = refl;
  known = known_opened (payload_of c.args.adb) c.args.known.now c.args.draft.now c.open_list.new.self c.requires.known c.in_ok-open_list.ensures.ok;
}

pub loop-i-preserved : goal.loop-i-preserved
loop-i-preserved c =
    let p : List ℕ = payload_of c.args.adb in
    let ws : List ℕ = array_entries c.args.folders in
    let vs : Plains = entries_in (array_at p (Kinds.Obj Tables.Dir) ws) in
    let within : c.loop-i.i < length ws = omega (arith, c.len-i-end.ensures.value, c.loop-i-test.true) in
    record {
      left =
          given_more folder_file_count folder_in_new_database (list_of vs) c.loop-i.i (value_at p (Kinds.Obj Tables.Dir) c.entry_word-folder.result) c.loop-i.left.now _ _ _ _
          (word_listed p (Kinds.Obj Tables.Dir) ws c.requires.sound c.loop-i.i c.entry_word-folder.result within c.entry_word-folder.ensures) c.loop-i.invariant.left c.in_ok-write_folder.ensures.folder c.flags_after_folder-left.ensures;
      known = c.in_ok-write_folder.ensures.known;
    }

pub returns : goal.returns
returns c =
    let p : List ℕ = payload_of c.args.adb in
    let ws : List ℕ = array_entries c.args.folders in
    let vs : Plains = entries_in (array_at p (Kinds.Obj Tables.Dir) ws) in
    let folders : Plains = folders_in_new_database (list_of vs) c.args.flags.now in
    let given : c.loop-i.draft ≡ draft_with_all folders (draft_with_open_list c.args.draft.now) =
    all_given folder_file_count folder_in_new_database (list_of vs) c.args.flags.now c.loop-i.left.now c.loop-i.i _ _ _
    (omega (arith, words_listed p (Kinds.Obj Tables.Dir) ws c.requires.sound, c.len-i-end.ensures.value, c.loop-i-test.false, c.loop-i.auto.i-end)) c.loop-i.invariant.left c.in_ok-open_list.ensures.ok in
    record {
      folders = closed array_or_null folders c.args.draft.now _ _ c.close_array.result c.close_array.ensures.ok given;
      known =
          on_ok _ _ (λ closed. known_closed_array p c.loop-i.known c.loop-i.draft c.close_array.new.self c.loop-i.invariant.known folders c.args.draft.now given (closed folders c.args.draft.now given))
          c.close_array.result c.close_array.ensures.ok;
    }
