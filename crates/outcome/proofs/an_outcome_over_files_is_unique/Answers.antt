use Rattle.base_core.proofs.OneList.{names_one}
use Rattle.engine_core.proofs.change_outcome.Made.{clash_once}
use Rattle.outcome.proofs.Existing.{over_one}
use Rattle.outcome.proofs.an_outcome_over_files_is_unique.Goals as goal

pub returns : goal.returns
returns c = over_one names_one c.a_choice_is_unique.ensures clash_once
