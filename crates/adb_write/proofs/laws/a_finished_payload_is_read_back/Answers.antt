use Rattle.adb_write.proofs.AnyOrder.{finished_read}
use Rattle.adb_write.proofs.laws.a_finished_payload_is_read_back.Goals as goal

pub returns : goal.returns
returns c = finished_read
