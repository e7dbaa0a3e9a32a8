-- The paths that are added, and those to come, are all.
use Rattle.std.proofs.Common.{◌≡◌, ◌+◌, ◌++◌, map, drop}
use Rattle.adb_view.specs.Adb.{payload_of}
use Rattle.adb_view.specs.Entries.{array_entries}
use Rattle.adb_fields.specs.Repeated.{paths_of_package_files, names_with_list_positions}
use Rattle.adb_fields.specs.NamedTexts.{joined_name_with_position, plains_of_array_words}
use Rattle.adb_view.specs.declared.tables.Kind.TheVariants as Kinds
use Rattle.adb_view.specs.declared.tables.Which.TheVariants as Tables
use Rattle.adb_fields.proofs.name_lists.all_paths.Given as goal

abbrev pub invariant-loop-i : goal.invariant-loop-i
invariant-loop-i l =
    map joined_name_with_position l.paths.items ++ names_with_list_positions (l.i + 1) (map paths_of_package_files (drop l.i (plains_of_array_words (payload_of l.adb) (Kinds.Obj Tables.Package) (array_entries l.packages))))
    ≡ names_with_list_positions 1 (map paths_of_package_files (plains_of_array_words (payload_of l.adb) (Kinds.Obj Tables.Package) (array_entries l.packages)))
