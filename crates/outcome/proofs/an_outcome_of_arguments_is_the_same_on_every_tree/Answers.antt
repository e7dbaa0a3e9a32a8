use Rattle.words_core.specs.Grammar.{command_of}
use Rattle.outcome.proofs.Everywhere.{same_everywhere}
use Rattle.outcome.proofs.Worded.{by_everywhere}
use Rattle.outcome.proofs.an_outcome_of_arguments_is_the_same_on_every_tree.Goals as goal

pub returns : goal.returns
returns c = λ words files others o rests is.
    by_everywhere same_everywhere (command_of words) files others o rests is
