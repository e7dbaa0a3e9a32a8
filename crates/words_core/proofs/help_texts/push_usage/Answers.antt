use Rattle.std.proofs.Common.{sym, ◌∙◌}
use Rattle.words_core.proofs.Helped.{usage_done, usage_left}
use Rattle.words_core.proofs.help_texts.push_usage.Goals as goal

pub loop-i-preserved : goal.loop-i-preserved
loop-i-preserved c = usage_left (λ line. line.now) c.args.lines.now c.loop-i.i _ c.loop-i.front.now _ c.loop-i.text.items c.push_usage_line.new.text.items c.loop-i-test.true c.in_ok-push_usage_line.ensures c.loop-i.invariant

pub returns : goal.returns
returns c = sym (c.loop-i.invariant ∙ usage_done (λ line. line.now) c.args.lines.now c.loop-i.i c.loop-i.front.now c.loop-i.text.items c.loop-i-test.false)
