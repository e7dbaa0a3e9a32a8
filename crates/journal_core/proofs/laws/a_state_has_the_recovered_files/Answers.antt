use Rattle.journal_core.proofs.Contents.{hidden_state, shown_state}
use Rattle.journal_core.proofs.laws.a_state_has_the_recovered_files.Goals as goal

pub returns-clause-shown : goal.returns-clause-shown
returns-clause-shown c = shown_state

pub returns-clause-hidden : goal.returns-clause-hidden
returns-clause-hidden c = hidden_state
