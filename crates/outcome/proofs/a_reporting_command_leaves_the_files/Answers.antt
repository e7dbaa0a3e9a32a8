use Rattle.words_core.specs.Grammar.{command_of}
use Rattle.outcome.proofs.Commits.{teller_commits, teller_files}
use Rattle.outcome.proofs.Worded.{of_by, tells_not}
use Rattle.outcome.specs.Effect.{effect_of_arguments}
use Rattle.outcome.proofs.a_reporting_command_leaves_the_files.Goals as goal

pub returns-clause-files : goal.returns-clause-files
returns-clause-files c = λ words files o tells is. teller_files words files o tells (of_by (command_of words) files o (tells_not (effect_of_arguments (command_of words)) tells) is)

pub returns-clause-commits : goal.returns-clause-commits
returns-clause-commits c = λ words files o tells is. teller_commits words files o tells (of_by (command_of words) files o (tells_not (effect_of_arguments (command_of words)) tells) is)
