use Rattle.outcome.proofs.Lacking.{lacking}
use Rattle.outcome.proofs.a_root_without_a_database_file_has_no_database.Goals as goal

pub returns : goal.returns
returns c = lacking
