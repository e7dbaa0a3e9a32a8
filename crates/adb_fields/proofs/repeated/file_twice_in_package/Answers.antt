-- One list more, and none after the last.
use Rattle.std.proofs.Common.{Option, map, arith, ap, ◌∙◌}
use Rattle.adb_view.specs.Adb.{payload_of}
use Rattle.adb_view.specs.Entries.{array_entries}
use Rattle.adb_view.specs.Plain.{Plain}
use Rattle.adb_view.specs.Values.{entries_in}
use Rattle.adb_fields.specs.Repeated.{least_positions_of_name_twice_in_list, least_positions_of_name_twice_in_one_list, name_of, list_of, files_in}
use Rattle.adb_fields.specs.NamedTexts.{plains_of_array_words}
use Rattle.adb_fields.specs.declared.pairs.Pair.{Pair}
use Rattle.adb_view.specs.declared.tables.Kind.TheVariants as Kinds
use Rattle.adb_view.specs.declared.tables.Which.TheVariants as Tables
use Rattle.adb_fields.proofs.FirstKinds.{one_first, no_first, one_each}
use Rattle.adb_fields.proofs.repeated.file_twice_in_package.Goals as goal

pub loop-i-preserved : goal.loop-i-preserved
loop-i-preserved c =
    let g : Plain → Option Pair = λ folder. least_positions_of_name_twice_in_list (map name_of (files_in folder)) in
    record {
      so_far = one_first (payload_of c.args.adb) (Kinds.Obj Tables.Dir) g (array_entries c.objects_field-folders.result) c.loop-i.i c.entry_word-folder.result c.loop-i.first c.in_ok-file_twice_in_folder.field-0 _ _ c.objects_field-folders.ensures.sound (grind arith) c.entry_word-folder.ensures c.in_ok-file_twice_in_folder.ensures.pair c.lesser_pair-first.ensures c.loop-i.invariant.so_far;
      lists = c.in_ok-file_twice_in_folder.ensures.lists;
    }

pub returns-clause-pair : goal.returns-clause-pair
returns-clause-pair c =
    let g : Plain → Option Pair = λ folder. least_positions_of_name_twice_in_list (map name_of (files_in folder)) in
    no_first (payload_of c.args.adb) (Kinds.Obj Tables.Dir) g (array_entries c.objects_field-folders.result) c.loop-i.i c.loop-i.first _ c.objects_field-folders.ensures.sound (grind arith) c.loop-i.invariant.so_far
    ∙ (one_each (λ folder. map name_of (files_in folder)) (plains_of_array_words (payload_of c.args.adb) (Kinds.Obj Tables.Dir) (array_entries c.objects_field-folders.result))
    ∙ ap (λ (folders : Plain). least_positions_of_name_twice_in_one_list (map (λ folder. map name_of (files_in folder)) (list_of (entries_in folders)))) c.objects_field-folders.ensures.value)
