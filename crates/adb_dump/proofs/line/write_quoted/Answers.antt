use Rattle.adb_dump.proofs.Pieces.{escapes_more, escapes_over}
use Rattle.adb_dump.proofs.Puts.{any_on, any_so_far_all, any_so_far_more, any_so_far_none}
use Rattle.adb_dump.proofs.line.write_quoted.Goals as goal

pub loop-byte-init : goal.loop-byte-init
loop-byte-init g c = any_so_far_none (g.O.Out.holds) _ _

pub loop-byte-preserved : goal.loop-byte-preserved
loop-byte-preserved g c = any_so_far_more (g.O.Out.holds) _ _ _ _ _ _ _ (escapes_more c.args.text.now c.loop-byte.byte-index c.loop-byte-test.true) c.in_ok-write_escaped.ensures c.loop-byte.invariant

pub returns : goal.returns
returns g c =
    let escapes = any_so_far_all (g.O.Out.holds) _ _ _ _ (escapes_over c.args.text.now c.loop-byte.byte-index c.loop-byte-test.false) c.loop-byte.invariant in
    any_on (g.O.Out.holds) _ _ _ _ _ (any_on (g.O.Out.holds) _ _ _ _ _ c.in_ok-put_byte.ensures escapes) c.in_ok-put_byte-2.ensures
