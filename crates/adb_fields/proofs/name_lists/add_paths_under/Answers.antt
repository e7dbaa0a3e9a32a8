-- One path more, and none after the last.
use Rattle.std.proofs.Common.{ℕ, ◌++◌, ◌∷◌, [], List, map, arith, ap, ◌∙◌}
use Rattle.adb_view.specs.Adb.{payload_of}
use Rattle.adb_view.specs.Entries.{array_entries}
use Rattle.adb_view.specs.Plain.{Plain}
use Rattle.adb_view.specs.Values.{value_at}
use Rattle.adb_fields.specs.Pairs.{NameWithPosition}
use Rattle.adb_fields.specs.Repeated.{name_of}
use Rattle.adb_fields.specs.Paths.{path_of}
use Rattle.adb_fields.specs.NamedTexts.{joined_name_with_position, name_with_position}
use Rattle.adb_view.specs.declared.tables.Kind.TheVariants as Kinds
use Rattle.adb_view.specs.declared.tables.Which.TheVariants as Tables
use Rattle.adb_fields.proofs.NameLists.{one_piece, no_piece, under_folder}
use Rattle.adb_fields.proofs.name_lists.add_paths_under.Goals as goal

pub loop-i-preserved : goal.loop-i-preserved
loop-i-preserved c =
    let piece : Plain → List NameWithPosition = λ file. name_with_position (path_of c.text_field-name.result.now (name_of file)) c.args.position ∷ [] in
    one_piece (payload_of c.args.adb) (Kinds.Obj Tables.File) piece (array_entries c.objects_field-files.result) c.loop-i.i c.entry_word.result _ _ _ c.objects_field-files.ensures.sound (grind arith) c.entry_word.ensures (c.in_ok-add_path.ensures ∙ ap (λ (x : List ℕ). map joined_name_with_position c.loop-i.paths.items ++ (name_with_position (path_of c.text_field-name.result.now x) c.args.position ∷ [])) c.text_field-file.ensures) c.loop-i.invariant

pub returns : goal.returns
returns c =
    let piece : Plain → List NameWithPosition = λ file. name_with_position (path_of c.text_field-name.result.now (name_of file)) c.args.position ∷ [] in
    no_piece (payload_of c.args.adb) (Kinds.Obj Tables.File) piece (array_entries c.objects_field-files.result) c.loop-i.i _ _ c.objects_field-files.ensures.sound (grind arith) c.loop-i.invariant
    ∙ ap (λ (new : List NameWithPosition). map joined_name_with_position c.args.paths.now.items ++ new) (under_folder c.args.position c.text_field-name.result.now (value_at (payload_of c.args.adb) (Kinds.Obj Tables.Dir) c.args.folder) _ c.text_field-name.ensures c.objects_field-files.ensures.value)
