use Rattle.std.proofs.Common.{arith}
use Rattle.journal_intent.proofs.Copies.{copies_all, copies_more}
use Rattle.journal_intent.proofs.container.copy_of_names.Goals as goal

pub loop-i-preserved : goal.loop-i-preserved
loop-i-preserved c = copies_more c.args.names.now c.loop-i.i c.get.result.now _ _ _ c.get.ensures c.loop-i.invariant c.in_ok-copy.ensures c.in_ok-push.ensures.ok

pub returns : goal.returns
returns c = copies_all c.args.names.now c.loop-i.i _ (omega arith) c.loop-i.invariant
