use Rattle.unmet_world.proofs.FirstUnmet.{explained}
use Rattle.unmet_world.proofs.unmet.explanation_of.Goals as goal

pub returns : goal.returns
returns c = explained c.args.pool.now c.args.listed.now c.args.repositories.now _ c.explanation.result c.in_ok-found.ensures.proof c.in_ok-found.ensures.named c.explanation.ensures
