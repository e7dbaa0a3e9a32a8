use Rattle.journal_intent.proofs.Apart.{taken_apart}
use Rattle.journal_intent.proofs.names.no_name_of_the_journal_is_a_folder_of_another.Goals as goal

pub returns : goal.returns
returns c = taken_apart
