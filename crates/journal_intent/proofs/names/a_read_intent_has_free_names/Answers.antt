use Rattle.journal_intent.proofs.FreeNames.{free_intent}
use Rattle.journal_intent.proofs.names.a_read_intent_has_free_names.Goals as goal

pub returns : goal.returns
returns c = free_intent c.sound_containers_hold_sound_values.ensures.value
