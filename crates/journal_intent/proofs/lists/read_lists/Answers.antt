use Rattle.std.proofs.Common.{◌∙◌}
use Rattle.journal_intent.proofs.FreeNames.{lists_spelled, removals_named, writes_named}
use Rattle.journal_intent.proofs.lists.read_lists.Goals as goal

pub names_in-requires : goal.names_in-requires
names_in-requires c = removals_named c.sound_containers_hold_sound_values.ensures.value _ c.in_ok-checked.ensures.sound _ _ c.removals.ensures (c.intent-intent.ensures ∙ c.in_ok-checked.ensures.value)

pub names_in-requires-2 : goal.names_in-requires-2
names_in-requires-2 c = writes_named c.sound_containers_hold_sound_values.ensures.value _ c.in_ok-checked.ensures.sound _ _ c.writes.ensures (c.intent-intent.ensures ∙ c.in_ok-checked.ensures.value)

pub returns-clause-intent : goal.returns-clause-intent
returns-clause-intent c =
    lists_spelled _ c.in_ok-checked.ensures.sound _ _ _ _ _ c.in_ok-removals.ensures.value c.in_ok-writes.ensures.value c.removals.ensures c.writes.ensures (c.intent-intent.ensures ∙ c.in_ok-checked.ensures.value)
