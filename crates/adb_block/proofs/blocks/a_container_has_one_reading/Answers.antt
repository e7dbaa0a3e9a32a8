use Rattle.adb_block.proofs.WholeFiles.{one_reading}
use Rattle.adb_block.proofs.blocks.a_container_has_one_reading.Goals as goal

pub returns : goal.returns
returns c = one_reading
