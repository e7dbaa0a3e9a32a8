use Rattle.words_core.specs.Grammar.{command_of}
use Rattle.outcome.proofs.Commits.{maker_commits}
use Rattle.outcome.proofs.Worded.{makes_not, of_by}
use Rattle.outcome.specs.Effect.{effect_of_arguments}
use Rattle.outcome.proofs.a_command_that_makes_commits_unless_refused.Goals as goal

pub returns : goal.returns
returns c = λ words files o makes is. maker_commits words files o makes (of_by (command_of words) files o (makes_not (effect_of_arguments (command_of words)) makes) is)
