use Rattle.db_core.proofs.OwnedPaths.{all_owned_listed}
use Rattle.db_core.proofs.laws.a_database_lists_the_owned_files.Goals as goal

pub returns : goal.returns
returns c = all_owned_listed
