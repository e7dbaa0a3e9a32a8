-- The positions are the first bytes of the payload.
use Rattle.std.proofs.Common.{rules, arith}
use Rattle.package_reader.proofs.BlockSeen.{positions_seen}
use Rattle.package_reader.proofs.block.read_positions.Goals as goal

pub returns-in_ok-read_at-clause-seen : goal.returns-in_ok-read_at-clause-seen
returns-in_ok-read_at-clause-seen g c = positions_seen (g.T.Tree.history c.args.tree.now) c.args.name.now c.args.at c.args.framing c.in-Some.frame c.read_at.new.into c.in-Some.is (omega (arith, c.if-frame.true)) (search rules) c.in_ok-read_at.ensures.value
