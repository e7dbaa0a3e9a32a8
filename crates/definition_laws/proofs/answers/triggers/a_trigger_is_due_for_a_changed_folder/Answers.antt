use Rattle.definition_laws.proofs.answers.Watched.{due_is, folders_are, folders_rise}
use Rattle.definition_laws.proofs.answers.triggers.a_trigger_is_due_for_a_changed_folder.Goals as goal

pub returns : goal.returns
returns c = record { due = due_is; folders = folders_are; order = folders_rise }
