-- The paths that are added, and those to come, are all.
use Rattle.std.proofs.Common.{◌≡◌, ◌++◌, ◌∷◌, [], map, drop}
use Rattle.std.specs.List.{flat_map}
use Rattle.adb_view.specs.Adb.{payload_of}
use Rattle.adb_view.specs.Entries.{array_entries}
use Rattle.adb_fields.specs.Repeated.{name_of}
use Rattle.adb_fields.specs.Paths.{path_of}
use Rattle.adb_fields.specs.NamedTexts.{joined_name_with_position, name_with_position, plains_of_array_words}
use Rattle.adb_view.specs.declared.tables.Kind.TheVariants as Kinds
use Rattle.adb_view.specs.declared.tables.Which.TheVariants as Tables
use Rattle.adb_fields.proofs.name_lists.add_paths_under.Given as goal

abbrev pub invariant-loop-i : goal.invariant-loop-i
invariant-loop-i l =
    map joined_name_with_position l.paths.items ++ flat_map (λ file. name_with_position (path_of l.name (name_of file)) l.position ∷ []) (drop l.i (plains_of_array_words (payload_of l.adb) (Kinds.Obj Tables.File) (array_entries l.files)))
    ≡ map joined_name_with_position l.initial.paths.items ++ flat_map (λ file. name_with_position (path_of l.name (name_of file)) l.position ∷ []) (plains_of_array_words (payload_of l.adb) (Kinds.Obj Tables.File) (array_entries l.files))
