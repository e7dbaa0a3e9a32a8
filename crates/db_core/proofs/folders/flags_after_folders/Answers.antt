use Rattle.std.proofs.Common.{ℕ, List, ◌<◌, length, arith, ◌∙◌}
use Rattle.adb_view.specs.Adb.{payload_of}
use Rattle.adb_view.specs.Entries.{array_entries}
use Rattle.adb_copy.specs.adb_fields.Fields.{array_at}
use Rattle.adb_view.specs.declared.tables.Kind.TheVariants as Kinds
use Rattle.adb_view.specs.declared.tables.Which.TheVariants as Tables
use Rattle.adb_copy.specs.adb_fields.Repeated.{list_of}
use Rattle.adb_view.specs.Values.{entries_in, value_at}
use Rattle.adb_copy.proofs.ReadWords.{word_sound}
use Rattle.db_core.specs.NewDatabase.{folder_file_count, folder_in_new_database}
use Rattle.db_core.proofs.Segments.{all_left, left_next}
use Rattle.db_core.proofs.Words.{word_listed, words_listed}
use Rattle.db_core.proofs.folders.flags_after_folders.Goals as goal

pub flags_after_folder-left-requires : goal.flags_after_folder-left-requires
flags_after_folder-left-requires c =
    let p : List ℕ = payload_of c.args.adb in
    let ws : List ℕ = array_entries c.args.folders in
    let within : c.loop-i.i < length ws = omega (arith, c.len-i-end.ensures.value, c.loop-i-test.true) in
    word_sound p (Kinds.Obj Tables.Dir) ws c.loop-i.i c.entry_word.result c.requires within c.entry_word.ensures

pub loop-i-preserved : goal.loop-i-preserved
loop-i-preserved c =
    let p : List ℕ = payload_of c.args.adb in
    let ws : List ℕ = array_entries c.args.folders in
    let vs = entries_in (array_at p (Kinds.Obj Tables.Dir) ws) in
    let within : c.loop-i.i < length ws = omega (arith, c.len-i-end.ensures.value, c.loop-i-test.true) in
    left_next folder_file_count folder_in_new_database (list_of vs) c.args.flags.now c.loop-i.i c.loop-i.left.now c.flags_after_folder-left.result.now (value_at p (Kinds.Obj Tables.Dir) c.entry_word.result)
    (word_listed p (Kinds.Obj Tables.Dir) ws c.requires c.loop-i.i c.entry_word.result within c.entry_word.ensures) c.loop-i.invariant c.flags_after_folder-left.ensures

pub returns : goal.returns
returns c =
    let p : List ℕ = payload_of c.args.adb in
    let ws : List ℕ = array_entries c.args.folders in
    let vs = entries_in (array_at p (Kinds.Obj Tables.Dir) ws) in
    c.loop-i.invariant ∙ all_left folder_file_count folder_in_new_database (list_of vs) c.args.flags.now c.loop-i.i
    (omega (arith, words_listed p (Kinds.Obj Tables.Dir) ws c.requires, c.len-i-end.ensures.value, c.loop-i-test.false, c.loop-i.auto.i-end))
