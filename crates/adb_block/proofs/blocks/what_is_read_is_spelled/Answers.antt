use Rattle.adb_block.proofs.WholeFiles.{read_is_spelled}
use Rattle.adb_block.proofs.blocks.what_is_read_is_spelled.Goals as goal

pub returns : goal.returns
returns c = read_is_spelled
