use Rattle.engine_core.proofs.Choices.{choice_one}
use Rattle.engine_core.proofs.choosing.a_choice_is_unique.Goals as goal

pub returns : goal.returns
returns c = choice_one c.the_first_selection_is_unique.ensures
