-- One list more, and none after the last.
use Rattle.std.proofs.Common.{Option, map, arith, ◌∙◌}
use Rattle.adb_view.specs.Adb.{payload_of}
use Rattle.adb_view.specs.Entries.{array_entries}
use Rattle.adb_view.specs.Plain.{Plain}
use Rattle.adb_fields.specs.Repeated.{least_positions_of_name_twice_in_list, name_of, folders_in}
use Rattle.adb_fields.specs.NamedTexts.{plains_of_array_words}
use Rattle.adb_fields.specs.declared.pairs.Pair.{Pair}
use Rattle.adb_view.specs.declared.tables.Kind.TheVariants as Kinds
use Rattle.adb_view.specs.declared.tables.Which.TheVariants as Tables
use Rattle.adb_fields.proofs.FirstKinds.{one_first, no_first, one_each}
use Rattle.adb_fields.proofs.repeated.positions_of_folder_repeated_in_a_package.Goals as goal

pub loop-i-preserved : goal.loop-i-preserved
loop-i-preserved c =
    let g : Plain → Option Pair = λ pkg. least_positions_of_name_twice_in_list (map name_of (folders_in pkg)) in
    record {
      so_far = one_first (payload_of c.args.adb) (Kinds.Obj Tables.Package) g (array_entries c.args.packages) c.loop-i.i c.entry_word-pkg.result c.loop-i.first c.in_ok-folder_twice_in_package.field-0 _ _ c.requires (grind arith) c.entry_word-pkg.ensures c.in_ok-folder_twice_in_package.ensures.pair c.lesser_pair-first.ensures c.loop-i.invariant.so_far;
      lists = c.in_ok-folder_twice_in_package.ensures.lists;
    }

pub returns : goal.returns
returns c =
    let g : Plain → Option Pair = λ pkg. least_positions_of_name_twice_in_list (map name_of (folders_in pkg)) in
    no_first (payload_of c.args.adb) (Kinds.Obj Tables.Package) g (array_entries c.args.packages) c.loop-i.i c.loop-i.first _ c.requires (grind arith) c.loop-i.invariant.so_far
    ∙ one_each (λ pkg. map name_of (folders_in pkg)) (plains_of_array_words (payload_of c.args.adb) (Kinds.Obj Tables.Package) (array_entries c.args.packages))
