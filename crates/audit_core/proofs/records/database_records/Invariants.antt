-- The records of the packages so far.
use Rattle.std.proofs.Common.{◌≡◌, map, take}
use Rattle.std.specs.List.{flat_map}
use Rattle.audit_core.specs.Records.{package_records}
use Rattle.audit_core.specs.Seen.{record_seen}
use Rattle.db_core.specs.Seen.{packages_of}
use Rattle.audit_core.proofs.records.database_records.Given as goal

abbrev pub invariant-loop-i : goal.invariant-loop-i
invariant-loop-i l = map record_seen l.records.items ≡ flat_map package_records (take l.i (packages_of l.db))
