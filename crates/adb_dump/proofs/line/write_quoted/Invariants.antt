use Rattle.std.proofs.Common.{drop}
use Rattle.std.specs.List.{flat_map}
use Rattle.adb_dump.specs.Dump.{quoted_form_of_byte}
use Rattle.adb_dump.proofs.Puts.{IsSoFarForAny}
use Rattle.adb_dump.proofs.line.write_quoted.Given as goal

abbrev pub invariant-loop-byte : goal.invariant-loop-byte
invariant-loop-byte g l = IsSoFarForAny (g.O.Out.holds) l.initial.out l.out (flat_map quoted_form_of_byte (drop l.byte-index l.text)) (flat_map quoted_form_of_byte l.text)
