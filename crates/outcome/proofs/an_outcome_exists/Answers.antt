use Rattle.base_core.proofs.OneList.{names_exist}
use Rattle.engine_core.proofs.change_outcome.Made.{a_clash_found}
use Rattle.words_core.specs.Grammar.{command_of}
use Rattle.outcome.proofs.Existing.{outcome_by}
use Rattle.outcome.proofs.Worded.{by_exists}
use Rattle.outcome.proofs.an_outcome_exists.Goals as goal

pub returns : goal.returns
returns c = λ words within files few.
    by_exists (outcome_by names_exist c.a_choice_exists.ensures a_clash_found) (command_of words) files within few
