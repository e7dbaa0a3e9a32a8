use Rattle.std.proofs.Common.{◌≡◌, ◌+◌, drop}
use Rattle.adb_view.specs.Adb.{payload_of}
use Rattle.adb_view.specs.Entries.{array_entries}
use Rattle.adb_view.specs.Leaves.{leading_leaves}
use Rattle.adb_view.proofs.walk.leading_leaves.Given as goal

abbrev pub invariant-loop-i : goal.invariant-loop-i
invariant-loop-i l = record {
  so_far : l.i + leading_leaves (payload_of l.adb) (drop l.i l.fields) (drop l.i (array_entries l.entries)) ≡ leading_leaves (payload_of l.adb) l.fields (array_entries l.entries);
}
