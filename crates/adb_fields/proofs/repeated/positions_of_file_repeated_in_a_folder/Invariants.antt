-- The first of the pairs passed and of those to come is the first of all.
use Rattle.std.proofs.Common.{◌≡◌, map, drop}
use Rattle.adb_view.specs.Adb.{payload_of}
use Rattle.adb_view.specs.Entries.{array_entries}
use Rattle.adb_fields.specs.ListsOf.{AreRememberedListsOf}
use Rattle.adb_fields.specs.Pairs.{least_pair, lesser_pair}
use Rattle.adb_fields.specs.Repeated.{least_positions_of_name_twice_in_one_list, name_of, files_in, folders_in}
use Rattle.adb_fields.specs.NamedTexts.{plains_of_array_words}
use Rattle.adb_view.specs.declared.tables.Kind.TheVariants as Kinds
use Rattle.adb_view.specs.declared.tables.Which.TheVariants as Tables
use Rattle.adb_fields.proofs.repeated.positions_of_file_repeated_in_a_folder.Given as goal

abbrev pub invariant-loop-i : goal.invariant-loop-i
invariant-loop-i l = record {
  so_far : lesser_pair l.first (least_pair (map (λ pkg. least_positions_of_name_twice_in_one_list (map (λ folder. map name_of (files_in folder)) (folders_in pkg))) (drop l.i (plains_of_array_words (payload_of l.adb) (Kinds.Obj Tables.Package) (array_entries l.packages))))) ≡ least_pair (map (λ pkg. least_positions_of_name_twice_in_one_list (map (λ folder. map name_of (files_in folder)) (folders_in pkg))) (plains_of_array_words (payload_of l.adb) (Kinds.Obj Tables.Package) (array_entries l.packages)));
  lists : AreRememberedListsOf l.adb Tables.File l.lists;
}
