use Rattle.journal_core.proofs.BadIntents.{bad_in_both, bad_shown, none_shown}
use Rattle.journal_core.proofs.laws.a_state_shows_a_bad_intent.Goals as goal

pub returns-clause-bad : goal.returns-clause-bad
returns-clause-bad c = bad_shown c.an_intent_is_read_from_a_sound_container.ensures.sound c.an_intent_is_read_from_a_sound_container.ensures.other

pub returns-clause-none : goal.returns-clause-none
returns-clause-none c = none_shown c.an_intent_is_read_from_a_sound_container.ensures.sound c.an_intent_is_read_from_a_sound_container.ensures.other

pub returns-clause-same : goal.returns-clause-same
returns-clause-same c = bad_in_both c.an_intent_is_read_from_a_sound_container.ensures.sound c.an_intent_is_read_from_a_sound_container.ensures.other
