use Rattle.std.proofs.Common.{◌≡◌, map, take}
use Rattle.adb_sound.specs.adb_fields.Repeated.{list_of}
use Rattle.adb_sound.specs.adb_fields.ListValue.{list_value}
use Rattle.adb_view.specs.Values.{entries_in, text_in}
use Rattle.journal_intent.proofs.lists.names_in.Given as goal

abbrev pub invariant-loop-i : goal.invariant-loop-i
invariant-loop-i l = l.names ≡ take l.i (map text_in (list_of (entries_in (list_value l.list))))
