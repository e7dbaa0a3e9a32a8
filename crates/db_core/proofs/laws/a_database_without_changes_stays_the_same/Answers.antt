use Rattle.db_core.proofs.Unchanged.{bytes_same, database_same}
use Rattle.db_core.proofs.laws.a_database_without_changes_stays_the_same.Goals as goal

pub returns-clause-value : goal.returns-clause-value
returns-clause-value c = database_same

pub returns-clause-bytes : goal.returns-clause-bytes
returns-clause-bytes c = bytes_same
