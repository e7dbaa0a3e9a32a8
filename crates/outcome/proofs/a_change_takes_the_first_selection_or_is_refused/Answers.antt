use Rattle.std.proofs.Common.{ℕ, Result, subst, ap, ◌∙◌}
use Rattle.command_core.specs.Command.{CommandLine}
use Rattle.engine_core.proofs.change_outcome.Made.{made}
use Rattle.words_core.specs.Grammar.{command_of}
use Rattle.outcome.proofs.FirstSelections.{over_end, run_end}
use Rattle.outcome.proofs.Worded.{changes_not, of_by}
use Rattle.outcome.specs.Commands.{IsOutcomeWithoutDemo}
use Rattle.outcome.specs.Effect.{effect_of_arguments}
use Rattle.outcome.proofs.a_change_takes_the_first_selection_or_is_refused.Goals as goal

pub returns-clause-over : goal.returns-clause-over
returns-clause-over c = over_end made

pub returns-clause-words : goal.returns-clause-words
returns-clause-words c = λ words command files o reads changes is.
    run_end made command files o changes
    (subst (λ (r : Result CommandLine ℕ). IsOutcomeWithoutDemo r files o) reads
    (of_by (command_of words) files o (changes_not (effect_of_arguments (command_of words)) (ap effect_of_arguments reads ∙ changes)) is))
