use Rattle.std.proofs.Common.{drop}
use Rattle.hex.specs.Hex.{encode_lower}
use Rattle.adb_dump.proofs.Puts.{IsSoFarForAny}
use Rattle.adb_dump.proofs.line.write_hex.Given as goal

abbrev pub invariant-loop-byte : goal.invariant-loop-byte
invariant-loop-byte g l = IsSoFarForAny (g.O.Out.holds) l.initial.out l.out (encode_lower (drop l.byte-index l.bytes)) (encode_lower l.bytes)
