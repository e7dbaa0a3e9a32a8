-- The step is that of the header.
use Rattle.std.proofs.Common.{sym}
use Rattle.adb_block.specs.Frames.{fields_of}
use Rattle.adb_block.proofs.Heads.{framed_step}
use Rattle.adb_block.proofs.block.frame_of.Goals as goal

pub returns-clause-exact : goal.returns-clause-exact
returns-clause-exact c = λ bytes len begins. framed_step c.args.last c.args.at bytes c.args.head.now c.args.left (fields_of c.in-Some-read_head.fields) _ (record { within = c.requires.within; whole = c.requires.whole }) len begins c.if-left-eq0.false (sym c.in-Some-read_head.ensures.exact) (c.in_ok-frame.ensures.exact bytes len)
