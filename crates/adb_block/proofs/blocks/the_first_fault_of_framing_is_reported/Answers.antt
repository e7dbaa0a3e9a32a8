use Rattle.adb_block.proofs.First.{first_told}
use Rattle.adb_block.proofs.blocks.the_first_fault_of_framing_is_reported.Goals as goal

pub returns : goal.returns
returns c = first_told
