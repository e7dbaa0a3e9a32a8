use Rattle.std.proofs.Common.{◌≡◌, ◌-◌, ℕ, List, length, drop, ◌∙◌, ap, arith, length-drop, sym, take_all}
use Rattle.adb_view.specs.Adb.{payload_of}
use Rattle.adb_view.specs.Entries.{array_entries}
use Rattle.adb_view.specs.declared.tables.Kind.TheVariants as Kinds
use Rattle.adb_view.specs.declared.tables.Which.TheVariants as Tables
use Rattle.adb_copy.specs.adb_fields.Repeated.{list_of}
use Rattle.adb_view.specs.Values.{entries_in, value_at}
use Rattle.db_core.specs.NewDatabase.{folder_file_count}
use Rattle.db_core.proofs.Segments.{drop_past}
use Rattle.db_core.proofs.Words.{words_listed}
use Rattle.db_core.proofs.folders.flags_after_folder.Goals as goal

pub returns-then-count-flags : goal.returns-then-count-flags
returns-then-count-flags c =
    let p : List ℕ = payload_of c.args.adb in
    let v = value_at p (Kinds.Obj Tables.Dir) c.args.folder in
    let n : c.len-count.result ≡ folder_file_count v =
    c.len-count.ensures.value ∙ words_listed p (Kinds.Obj Tables.File) (array_entries c.objects_field-files.result) c.objects_field-files.ensures.sound ∙ ap (λ u. length (list_of (entries_in u))) c.objects_field-files.ensures.value in
    sym (drop_past (folder_file_count v) c.args.flags.now (omega (arith, n, c.if-count-flags.true)))

pub returns : goal.returns
returns c =
    let p : List ℕ = payload_of c.args.adb in
    let v = value_at p (Kinds.Obj Tables.Dir) c.args.folder in
    let n : c.len-count.result ≡ folder_file_count v =
    c.len-count.ensures.value ∙ words_listed p (Kinds.Obj Tables.File) (array_entries c.objects_field-files.result) c.objects_field-files.ensures.sound ∙ ap (λ u. length (list_of (entries_in u))) c.objects_field-files.ensures.value in
    let short = length-drop c.len-count.result c.args.flags.now in
    take_all (length c.args.flags.now - c.len-count.result) (drop c.len-count.result c.args.flags.now) (omega (arith, short)) ∙ ap (λ k. drop k c.args.flags.now) n
