use Rattle.engine_core.proofs.change_outcome.Made.{brings_no_intent, keeps_room, made}
use Rattle.engine_core.proofs.journal_intent.ReadIntent.{spelled}
use Rattle.words_core.specs.Grammar.{command_of}
use Rattle.outcome.proofs.NextRoom.{next_room}
use Rattle.outcome.proofs.Worded.{changes_not, of_by}
use Rattle.outcome.specs.Effect.{effect_of_arguments}
use Rattle.outcome.proofs.a_change_leaves_free_paths_for_the_next.Goals as goal

pub returns : goal.returns
returns c = λ words files o changes is.
    next_room
    (λ inputs r wishes read clash old done ok. keeps_room inputs r wishes read clash old done (made inputs r wishes read clash old done ok))
    (λ inputs r wishes read clash old done ok. brings_no_intent inputs r wishes read clash old done (made inputs r wishes read clash old done ok)) spelled words files o changes
    (of_by (command_of words) files o (changes_not (effect_of_arguments (command_of words)) changes) is)
