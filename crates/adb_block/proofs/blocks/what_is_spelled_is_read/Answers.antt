use Rattle.adb_block.proofs.WholeFiles.{spelled_is_read}
use Rattle.adb_block.proofs.blocks.what_is_spelled_is_read.Goals as goal

pub returns : goal.returns
returns c = spelled_is_read
