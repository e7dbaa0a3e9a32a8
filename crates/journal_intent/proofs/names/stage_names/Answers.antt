use Rattle.journal_intent.proofs.Places.{places_more}
use Rattle.journal_intent.proofs.names.stage_names.Goals as goal

pub loop-k-preserved : goal.loop-k-preserved
loop-k-preserved c = places_more _ _ _ _ c.loop-k.invariant c.in_ok-stage_name.ensures c.in_ok-push.ensures.ok
