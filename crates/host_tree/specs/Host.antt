-- The counts of the host's tree and of the host's output streams. The rules are in `docs/crash-safety.md`, "Misuses,
-- faults and counts".
use Rattle.std.specs.Prelude.{ℕ, true}
use Rattle.base_core.specs.Faults.{Counts}

-- the counts of a host's tree or sink with this many failed calls: it may fail at any call, and reports
-- no misuse and no lack of memory of its own
abbrev pub host_counts : ℕ → Counts
host_counts faults = record { faults = faults; misuses = 0; memory_faults = 0; fallible = true }
