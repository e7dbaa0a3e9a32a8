-- The paths that are added, and those to come, are all.
use Rattle.std.proofs.Common.{◌≡◌, ◌++◌, map, drop}
use Rattle.std.specs.List.{flat_map}
use Rattle.adb_view.specs.Adb.{payload_of}
use Rattle.adb_view.specs.Entries.{array_entries}
use Rattle.adb_fields.specs.Repeated.{paths_of_folder_files, names_all_at_position}
use Rattle.adb_fields.specs.NamedTexts.{joined_name_with_position, plains_of_array_words}
use Rattle.adb_view.specs.declared.tables.Kind.TheVariants as Kinds
use Rattle.adb_view.specs.declared.tables.Which.TheVariants as Tables
use Rattle.adb_fields.proofs.name_lists.add_paths.Given as goal

abbrev pub invariant-loop-i : goal.invariant-loop-i
invariant-loop-i l =
    map joined_name_with_position l.paths.items ++ flat_map (λ folder. names_all_at_position l.position (paths_of_folder_files folder)) (drop l.i (plains_of_array_words (payload_of l.adb) (Kinds.Obj Tables.Dir) (array_entries l.folders)))
    ≡ map joined_name_with_position l.initial.paths.items ++ flat_map (λ folder. names_all_at_position l.position (paths_of_folder_files folder)) (plains_of_array_words (payload_of l.adb) (Kinds.Obj Tables.Dir) (array_entries l.folders))
