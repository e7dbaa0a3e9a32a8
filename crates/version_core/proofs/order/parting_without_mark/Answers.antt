use Rattle.std.proofs.Common.{arith}
use Rattle.version_core.proofs.Unmarked.{parted_in_hash}
use Rattle.version_core.proofs.order.parting_without_mark.Goals as goal

pub returns : goal.returns
returns c =
    parted_in_hash c.args.left.now c.args.right.now c.args.len c.requires.equal (omega (arith, c.if-len-le-MOST_UNMARKED.false)) c.requires.unmarked c.requires.version
