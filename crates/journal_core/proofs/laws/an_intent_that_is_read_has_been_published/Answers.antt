use Rattle.journal_core.proofs.Vacant.{none_published, now_published}
use Rattle.journal_core.proofs.laws.an_intent_that_is_read_has_been_published.Goals as goal

pub returns-clause-read : goal.returns-clause-read
returns-clause-read c = now_published

pub returns-clause-none : goal.returns-clause-none
returns-clause-none c = none_published
