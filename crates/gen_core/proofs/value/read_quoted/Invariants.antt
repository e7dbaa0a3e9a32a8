use Rattle.std.proofs.Common.{length}
use Rattle.std.specs.List.{flat_map}
use Rattle.adb_dump.specs.Dump.{quoted_form_of_byte}
use Rattle.gen_core.proofs.Escapes.{AreRead}
use Rattle.gen_core.proofs.value.read_quoted.Given as goal

abbrev pub invariant-loop-byte : goal.invariant-loop-byte
invariant-loop-byte l = AreRead (flat_map quoted_form_of_byte) l.bytes.items l.rest l.quoted

abbrev pub decreases-loop-byte : goal.decreases-loop-byte
decreases-loop-byte l = length l.rest
