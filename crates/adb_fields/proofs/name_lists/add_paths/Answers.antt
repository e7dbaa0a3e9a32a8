-- One folder more, and none after the last.
use Rattle.std.proofs.Common.{◌++◌, List, map, arith, ap, ◌∙◌}
use Rattle.adb_view.specs.Adb.{payload_of}
use Rattle.adb_view.specs.Entries.{array_entries}
use Rattle.adb_view.specs.Plain.{Plain}
use Rattle.adb_view.specs.Values.{value_at}
use Rattle.adb_fields.specs.Pairs.{NameWithPosition}
use Rattle.adb_fields.specs.Repeated.{paths_of_folder_files, names_all_at_position}
use Rattle.adb_fields.specs.NamedTexts.{joined_name_with_position}
use Rattle.adb_view.specs.declared.tables.Kind.TheVariants as Kinds
use Rattle.adb_view.specs.declared.tables.Which.TheVariants as Tables
use Rattle.adb_fields.proofs.NameLists.{one_piece, no_piece, in_package}
use Rattle.adb_fields.proofs.name_lists.add_paths.Goals as goal

pub loop-i-preserved : goal.loop-i-preserved
loop-i-preserved c =
    let piece : Plain → List NameWithPosition = λ folder. names_all_at_position c.args.position (paths_of_folder_files folder) in
    one_piece (payload_of c.args.adb) (Kinds.Obj Tables.Dir) piece (array_entries c.objects_field-folders.result) c.loop-i.i c.entry_word.result _ _ _ c.objects_field-folders.ensures.sound (grind arith) c.entry_word.ensures c.in_ok-add_paths_under.ensures c.loop-i.invariant

pub returns : goal.returns
returns c =
    let piece : Plain → List NameWithPosition = λ folder. names_all_at_position c.args.position (paths_of_folder_files folder) in
    no_piece (payload_of c.args.adb) (Kinds.Obj Tables.Dir) piece (array_entries c.objects_field-folders.result) c.loop-i.i _ _ c.objects_field-folders.ensures.sound (grind arith) c.loop-i.invariant
    ∙ ap (λ (new : List NameWithPosition). map joined_name_with_position c.args.paths.now.items ++ new) (in_package c.args.position (value_at (payload_of c.args.adb) (Kinds.Obj Tables.Package) c.args.pkg) _ c.objects_field-folders.ensures.value)
