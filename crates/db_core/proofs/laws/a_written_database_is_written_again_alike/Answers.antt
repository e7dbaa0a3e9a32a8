use Rattle.db_core.proofs.KeptParts.{written_again}
use Rattle.db_core.proofs.laws.a_written_database_is_written_again_alike.Goals as goal

pub returns : goal.returns
returns c = written_again c.what_a_container_is_made_of_is_read_back.ensures.value
