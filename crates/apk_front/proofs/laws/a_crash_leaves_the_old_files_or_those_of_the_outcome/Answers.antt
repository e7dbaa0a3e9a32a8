use Rattle.apk_front.proofs.EachOutcome.{safe_for_each}
use Rattle.apk_front.proofs.laws.a_crash_leaves_the_old_files_or_those_of_the_outcome.Goals as goal

pub returns : goal.returns
returns c = safe_for_each c.an_outcome_is_unique.ensures c.quiet_then_old_or_new_is_old_or_new.ensures.old
