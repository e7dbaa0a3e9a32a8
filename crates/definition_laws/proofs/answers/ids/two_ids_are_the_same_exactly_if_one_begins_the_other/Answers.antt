use Rattle.definition_laws.proofs.answers.SameIds.{same_ids}
use Rattle.definition_laws.proofs.answers.ids.two_ids_are_the_same_exactly_if_one_begins_the_other.Goals as goal

pub returns : goal.returns
returns c = same_ids
