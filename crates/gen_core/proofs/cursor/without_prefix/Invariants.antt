use Rattle.std.proofs.Common.{◌≡◌, drop}
use Rattle.adb_dump.specs.ReadBack.{strip_prefix}
use Rattle.gen_core.proofs.cursor.without_prefix.Given as goal

-- what is left of the line is without the rest of the prefix what the line is without all
abbrev pub invariant-loop-byte : goal.invariant-loop-byte
invariant-loop-byte l = strip_prefix (drop l.byte-index l.prefix) l.rest ≡ strip_prefix l.prefix l.line
