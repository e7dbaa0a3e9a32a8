use Rattle.adb_block.proofs.WrittenBlocks.{container_spells}
use Rattle.adb_block.proofs.blocks.what_is_written_is_spelled.Goals as goal

pub returns : goal.returns
returns c = container_spells
