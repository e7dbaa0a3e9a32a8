use Rattle.journal_core.proofs.OnTheWay.{nothing_staged}
use Rattle.journal_core.proofs.laws.a_new_stage_has_staged_nothing.Goals as goal

pub returns : goal.returns
returns c = nothing_staged
