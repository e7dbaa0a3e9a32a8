use Rattle.journal_intent.proofs.ReadIntent.{spelled, not_spelled}
use Rattle.journal_intent.proofs.names.an_intent_is_read_from_a_sound_container.Goals as goal

pub returns-clause-sound : goal.returns-clause-sound
returns-clause-sound c = spelled

pub returns-clause-other : goal.returns-clause-other
returns-clause-other c = not_spelled
