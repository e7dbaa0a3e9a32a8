use Rattle.std.proofs.Common.{◌≡◌, ◌≤◌, length, take}
use Rattle.adb_write.specs.Canonical.{words_without_last_nulls}
use Rattle.adb_write.proofs.writer.trimmed.Given as goal

abbrev pub invariant-loop-len : goal.invariant-loop-len
invariant-loop-len l = record { within : l.len ≤ length l.fields; same : words_without_last_nulls (take l.len l.fields) ≡ words_without_last_nulls l.fields }

abbrev pub decreases-loop-len : goal.decreases-loop-len
decreases-loop-len l = l.len
