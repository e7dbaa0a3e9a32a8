use Rattle.adb_dump.proofs.Placed.{laid_line}
use Rattle.adb_dump.proofs.Puts.{any_on, any_told}
use Rattle.adb_dump.proofs.line.write_number_line.Goals as goal

pub returns : goal.returns
returns g c = any_told (g.O.Out.holds) _ _ _ _ (laid_line c.args.start.depth c.args.start.begun _) (any_on (g.O.Out.holds) _ _ _ _ _ (any_on (g.O.Out.holds) _ _ _ _ _ (c.in_ok-write_lead.ensures) (c.in_ok-write_number.ensures)) (c.in_ok-put_byte.ensures))
