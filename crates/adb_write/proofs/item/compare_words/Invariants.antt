use Rattle.std.proofs.Common.{◌≡◌, ◌≤◌, ◌-◌, length, drop}
use Rattle.std.specs.Prelude.{reverse}
use Rattle.adb_view.specs.Entries.{array_entries}
use Rattle.adb_write.specs.Keys.{low_words}
use Rattle.adb_write.proofs.Rising.{cmp}
use Rattle.adb_write.proofs.item.compare_words.Given as goal

abbrev pub invariant-loop-i : goal.invariant-loop-i
invariant-loop-i l = record {
  in_words : l.i ≤ length l.words;
  in_entries : l.i ≤ length (array_entries l.entries);
  same : cmp (drop l.i (reverse (low_words l.words))) (drop l.i (reverse (array_entries l.entries))) ≡ cmp (reverse (low_words l.words)) (reverse (array_entries l.entries));
}

abbrev pub decreases-loop-i : goal.decreases-loop-i
decreases-loop-i l = length l.words - l.i
