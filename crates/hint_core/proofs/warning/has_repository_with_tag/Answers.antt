use Rattle.std.proofs.Common.{sym}
use Rattle.hint_core.proofs.WarningSteps.{tagged_here, tagged_later}
use Rattle.hint_core.proofs.warning.has_repository_with_tag.Goals as goal

pub returns-then-is_tag_of : goal.returns-then-is_tag_of
returns-then-is_tag_of c = tagged_here c.args.repos.now c.loop-i.i c.args.tag.now _ c.tag.ensures (sym c.if-is_tag_of.ensures) c.loop-i.invariant

pub loop-i-preserved : goal.loop-i-preserved
loop-i-preserved c = tagged_later c.args.repos.now c.loop-i.i c.args.tag.now _ c.tag.ensures (sym c.if-is_tag_of.ensures) c.loop-i.invariant
