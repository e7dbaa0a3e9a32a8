-- The texts that are added, and those to come, are all.
use Rattle.std.proofs.Common.{◌≡◌, ◌+◌, ◌++◌, map, drop}
use Rattle.std.specs.Vec.{vec_len}
use Rattle.adb_view.specs.Adb.{payload_of}
use Rattle.adb_view.specs.Entries.{array_entries}
use Rattle.adb_view.specs.Values.{text_in}
use Rattle.adb_fields.specs.Repeated.{numbered_from}
use Rattle.adb_fields.specs.NamedTexts.{joined_name_with_position, plains_of_array_words}
use Rattle.adb_view.specs.declared.tables.Kind.TheVariants as Kinds
use Rattle.adb_fields.proofs.name_lists.add_texts.Given as goal

abbrev pub invariant-loop-i : goal.invariant-loop-i
invariant-loop-i l =
    (vec_len l.names ≡ vec_len l.initial.names + l.i)
    × (map joined_name_with_position l.names.items ++ numbered_from (vec_len l.names + 1) (map text_in (drop l.i (plains_of_array_words (payload_of l.adb) Kinds.Text (array_entries l.texts))))
    ≡ map joined_name_with_position l.initial.names.items ++ numbered_from (vec_len l.initial.names + 1) (map text_in (plains_of_array_words (payload_of l.adb) Kinds.Text (array_entries l.texts))))
