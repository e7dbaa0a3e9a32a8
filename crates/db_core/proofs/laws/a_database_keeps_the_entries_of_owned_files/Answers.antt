use Rattle.db_core.proofs.OwnedEntries.{entries_kept}
use Rattle.db_core.proofs.laws.a_database_keeps_the_entries_of_owned_files.Goals as goal

pub returns : goal.returns
returns c = entries_kept
