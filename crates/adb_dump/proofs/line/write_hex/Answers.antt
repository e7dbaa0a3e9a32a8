use Rattle.adb_dump.proofs.Pieces.{hex_more, hex_over}
use Rattle.adb_dump.proofs.Puts.{any_told, any_so_far_all, any_so_far_more, any_so_far_none}
use Rattle.adb_dump.proofs.line.write_hex.Goals as goal

pub loop-byte-init : goal.loop-byte-init
loop-byte-init g c = any_so_far_none (g.O.Out.holds) _ _

pub loop-byte-preserved : goal.loop-byte-preserved
loop-byte-preserved g c = any_so_far_more (g.O.Out.holds) _ _ _ _ _ _ _ (hex_more c.args.bytes.now c.loop-byte.byte-index c.loop-byte-test.true) (any_told (g.O.Out.holds) _ _ _ _ c.hex_digits.ensures c.in_ok-put.ensures) c.loop-byte.invariant

pub returns : goal.returns
returns g c = any_so_far_all (g.O.Out.holds) _ _ _ _ (hex_over c.args.bytes.now c.loop-byte.byte-index c.loop-byte-test.false) c.loop-byte.invariant
