use Rattle.std.proofs.Common.{inl, refl}
use Rattle.base_core.proofs.OneList.{files_named}
use Rattle.base_core.specs.Tree.{files_of}
use Rattle.engine_core.proofs.journal_intent.ReadIntent.{not_spelled, spelled}
use Rattle.words_core.specs.Grammar.{command_of}
use Rattle.outcome.proofs.MadeSound.{made_sound}
use Rattle.outcome.proofs.Recovered.{unstaged_named}
use Rattle.outcome.proofs.Worded.{of_by, output_not}
use Rattle.outcome.proofs.what_is_made_is_sound.Goals as goal

pub returns : goal.returns
returns c = λ words v o name whole is none under.
    made_sound (λ state formed. files_named state formed state.names (inl refl))
    (unstaged_named spelled not_spelled c.sound_containers_hold_sound_values.ensures.value) c.a_made_package_is_sound.ensures c.a_made_index_is_sound.ensures
    words v o name whole (of_by (command_of words) (files_of v) o (output_not (command_of words) name under) is) none under
