use Rattle.std.proofs.Common.{List, ℕ, Bor, arith}
use Rattle.engine_core.proofs.Lists.{all_pushed, pushed}
use Rattle.engine_core.proofs.removals.push_each.Goals as goal

pub loop-i-preserved : goal.loop-i-preserved
loop-i-preserved c = pushed (λ (n : Bor (List ℕ)). n.now) _ c.args.more.now c.loop-i.i c.loop-i.names.items _ _ c.in_ok-push.ensures.items c.get.ensures c.loop-i.invariant

pub returns : goal.returns
returns c = all_pushed (λ (n : Bor (List ℕ)). n.now) _ c.args.more.now c.loop-i.i c.loop-i.names.items (omega (arith, c.loop-i-test.false, c.len-i-end.ensures)) c.loop-i.invariant
