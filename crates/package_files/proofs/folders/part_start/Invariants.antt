use Rattle.std.proofs.Common.{◌≡◌, ◌≢◌, ℕ, ◌<◌, ◌≤◌, ◌-◌, get_or}
use Rattle.package_files.proofs.folders.part_start.Given as goal

abbrev pub invariant-loop-i : goal.invariant-loop-i
invariant-loop-i l = record {
  within : l.start ≤ l.i;
  behind : (k : ℕ) → l.start ≤ k → k < l.i → get_or l.path k 0 ≢ 47;
  slash : 0 < l.start → get_or l.path (l.start - 1) 0 ≡ 47;
}
