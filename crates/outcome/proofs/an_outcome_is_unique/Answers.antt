use Rattle.base_core.proofs.OneList.{names_one}
use Rattle.engine_core.proofs.change_outcome.Made.{clash_once}
use Rattle.words_core.specs.Grammar.{command_of}
use Rattle.outcome.proofs.Existing.{outcome_one}
use Rattle.outcome.proofs.Worded.{by_one}
use Rattle.outcome.proofs.an_outcome_is_unique.Goals as goal

pub returns : goal.returns
returns c = λ words files a b x y.
    by_one (outcome_one names_one c.a_choice_is_unique.ensures clash_once) (command_of words) files a b x y
