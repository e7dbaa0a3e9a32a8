use Rattle.std.proofs.Common.{◌≡◌, ◌⊎◌, inl, false}
use Rattle.engine_core.proofs.change_outcome.ReadRoot.{root_read}
use Rattle.words_core.specs.Grammar.{command_of}
use Rattle.outcome.proofs.Idle.{idle_change, leaves_idle, without_commit}
use Rattle.outcome.proofs.Worded.{leaves_by}
use Rattle.outcome.specs.Effect.{effect_of_arguments}
use Rattle.outcome.specs.Outcome.{Outcome}
use Rattle.outcome.specs.Work.{files_recovered_if_needed}
use Rattle.outcome.proofs.a_command_that_commits_nothing_leaves_the_files.Goals as goal

pub returns-clause-over : goal.returns-clause-over
returns-clause-over c = without_commit

pub returns-clause-words : goal.returns-clause-words
returns-clause-words c = λ words files o is nothing.
    leaves_by (λ (p : Outcome). p.commits ≡ false → (p.files ≡ files) ⊎ (p.files ≡ files_recovered_if_needed (effect_of_arguments (command_of words)) files)) (command_of words) files o
    (λ of. leaves_idle root_read idle_change words files o of)
    (λ left none. inl left.0) is nothing
