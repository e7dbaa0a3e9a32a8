use Rattle.journal_core.proofs.Compose.{still_itself, still_since, still_twice}
use Rattle.journal_core.proofs.laws.unchanged_moments_compose.Goals as goal

pub returns-clause-none : goal.returns-clause-none
returns-clause-none c = still_itself

pub returns-clause-two : goal.returns-clause-two
returns-clause-two c = still_twice

pub returns-clause-calls : goal.returns-clause-calls
returns-clause-calls c = still_since
