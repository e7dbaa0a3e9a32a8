-- Each window so far was printable.
use Rattle.std.proofs.Common.{◌≡◌, ◌+◌, ◌-◌, ◌≤◌, ℕ, true, length, take}
use Rattle.std.specs.List.{list_all}
use Rattle.adb_dump.specs.Dump.{is_printable}
use Rattle.adb_dump.proofs.line.is_long_printable.Given as goal

abbrev pub invariant-loop-at : goal.invariant-loop-at
invariant-loop-at l = record {
  within : l.at ≤ l.last + 16;
  printable : list_all is_printable (take l.at l.text) ≡ true;
}

abbrev pub decreases-loop-at : goal.decreases-loop-at
decreases-loop-at l = l.last + 16 - l.at
