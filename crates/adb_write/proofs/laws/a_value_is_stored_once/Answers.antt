use Rattle.adb_write.proofs.Again.{stored_once}
use Rattle.adb_write.proofs.laws.a_value_is_stored_once.Goals as goal

pub returns : goal.returns
returns c = stored_once
