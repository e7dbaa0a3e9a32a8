use Rattle.std.proofs.Common.{◌≡◌, ◌+◌, drop, true}
use Rattle.adb_view.specs.Adb.{payload_of}
use Rattle.adb_view.specs.Entries.{array_entries}
use Rattle.adb_view.specs.Rank.{rank, rank_of_all}
use Rattle.adb_dump.specs.Words.{are_null, fields_sound, fields_at}
use Rattle.adb_dump.proofs.words.+null.Given as goal

abbrev pub decreases-are_null : goal.decreases-are_null
decreases-are_null l = rank_of_all l.fields.now + 1

abbrev pub decreases-is_null : goal.decreases-is_null
decreases-is_null l = rank l.kind

abbrev pub invariant-are_null-loop-i : goal.invariant-are_null-loop-i
invariant-are_null-loop-i l = record {
  sound : fields_sound (payload_of l.adb) (drop l.i l.fields) (drop l.i (array_entries l.words)) ≡ true;
  so_far : are_null (fields_at (payload_of l.adb) (drop l.i l.fields) (drop l.i (array_entries l.words))) ≡ are_null (fields_at (payload_of l.adb) l.fields (array_entries l.words));
}
