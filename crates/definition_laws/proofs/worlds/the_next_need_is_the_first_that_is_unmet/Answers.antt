use Rattle.definition_laws.proofs.worlds.NextNeeds.{next}
use Rattle.definition_laws.proofs.worlds.OneNeed.{one_next}
use Rattle.definition_laws.proofs.worlds.the_next_need_is_the_first_that_is_unmet.Goals as goal

pub returns-clause-next : goal.returns-clause-next
returns-clause-next c = next

pub returns-clause-one : goal.returns-clause-one
returns-clause-one c = one_next
