use Rattle.hint_core.proofs.WarningSteps.{silent_if_one, warned_if_none}
use Rattle.hint_core.proofs.laws.tags_without_a_repository_are_warned_of.Goals as goal

pub returns-clause-none : goal.returns-clause-none
returns-clause-none c = warned_if_none

pub returns-clause-one : goal.returns-clause-one
returns-clause-one c = silent_if_one
