use Rattle.journal_intent.proofs.FreeNames.{change_names_free}
use Rattle.journal_intent.proofs.names.the_names_of_a_change_are_free.Goals as goal

pub returns : goal.returns
returns c = change_names_free
