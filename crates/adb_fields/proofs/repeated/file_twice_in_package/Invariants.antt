-- The first of the pairs passed and of those to come is the first of all.
use Rattle.std.proofs.Common.{◌≡◌, map, drop}
use Rattle.adb_view.specs.Adb.{payload_of}
use Rattle.adb_view.specs.Entries.{array_entries}
use Rattle.adb_fields.specs.ListsOf.{AreRememberedListsOf}
use Rattle.adb_fields.specs.Pairs.{least_pair, lesser_pair}
use Rattle.adb_fields.specs.Repeated.{least_positions_of_name_twice_in_list, name_of, files_in}
use Rattle.adb_fields.specs.NamedTexts.{plains_of_array_words}
use Rattle.adb_view.specs.declared.tables.Kind.TheVariants as Kinds
use Rattle.adb_view.specs.declared.tables.Which.TheVariants as Tables
use Rattle.adb_fields.proofs.repeated.file_twice_in_package.Given as goal

abbrev pub invariant-loop-i : goal.invariant-loop-i
invariant-loop-i l = record {
  so_far : lesser_pair l.first (least_pair (map (λ folder. least_positions_of_name_twice_in_list (map name_of (files_in folder))) (drop l.i (plains_of_array_words (payload_of l.adb) (Kinds.Obj Tables.Dir) (array_entries l.folders))))) ≡ least_pair (map (λ folder. least_positions_of_name_twice_in_list (map name_of (files_in folder))) (plains_of_array_words (payload_of l.adb) (Kinds.Obj Tables.Dir) (array_entries l.folders)));
  lists : AreRememberedListsOf l.adb Tables.File l.lists;
}
