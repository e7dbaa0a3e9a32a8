use Rattle.journal_core.proofs.Contents.{removed_absent, untouched_others}
use Rattle.journal_core.proofs.laws.the_actions_touch_the_names_of_their_intent.Goals as goal

pub returns-clause-removed : goal.returns-clause-removed
returns-clause-removed c = removed_absent

pub returns-clause-others : goal.returns-clause-others
returns-clause-others c = untouched_others
