use Rattle.adb_view.specs.Adb.{payload_of}
use Rattle.adb_dump.proofs.Placed.{laid_line}
use Rattle.adb_dump.proofs.Puts.{puts_on, puts_told}
use Rattle.adb_dump.proofs.line.write_text_line.Goals as goal

pub returns : goal.returns
returns g c =
    let p = payload_of c.args.adb in
    puts_told (g.O.Out.holds p) _ _ _ _ (laid_line c.args.start.depth c.args.start.begun _)
    (puts_on (g.O.Out.holds p) _ _ _ _ _ (puts_on (g.O.Out.holds p) _ _ _ _ _ (c.in_ok-write_lead.ensures p) c.in_ok-put_text.ensures) (c.in_ok-put_byte.ensures p))
