use Rattle.apk_front.proofs.EachOutcome.{lasting_for_each}
use Rattle.apk_front.proofs.laws.what_is_carried_out_is_durable.Goals as goal

pub returns : goal.returns
returns c = lasting_for_each c.an_outcome_is_unique.ensures
