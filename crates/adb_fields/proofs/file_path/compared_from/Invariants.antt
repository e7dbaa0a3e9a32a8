-- What is left of both names is compared as it was from the first place on.
use Rattle.std.proofs.Common.{◌≡◌, ◌-◌, length}
use Rattle.adb_fields.specs.JoinedPath.{joined_path}
use Rattle.adb_fields.proofs.Compared.{from_place}
use Rattle.adb_fields.proofs.file_path.compared_from.Given as goal

abbrev pub invariant-loop-byte : goal.invariant-loop-byte
invariant-loop-byte l = from_place (joined_path l.one) (joined_path l.other) l.i ≡ from_place (joined_path l.one) (joined_path l.other) l.from

abbrev pub decreases-loop-byte : goal.decreases-loop-byte
decreases-loop-byte l = length (joined_path l.one) - l.i
