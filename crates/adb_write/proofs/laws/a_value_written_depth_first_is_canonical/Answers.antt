use Rattle.adb_write.proofs.DepthFirst.{writes_finished}
use Rattle.adb_write.proofs.laws.a_value_written_depth_first_is_canonical.Goals as goal

pub returns : goal.returns
returns c = writes_finished
