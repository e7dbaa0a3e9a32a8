-- What is left has the fault of the whole.
use Rattle.std.proofs.Common.{◌≡◌, length}
use Rattle.adb_block.specs.Reading.{block_stream_from}
use Rattle.adb_schema.specs.Soundness.{remaining_blocks_fault}
use Rattle.adb_schema.proofs.read.check_further.Given as goal

abbrev pub invariant-loop-block : goal.invariant-loop-block
invariant-loop-block l = remaining_blocks_fault (block_stream_from l.blocks) ≡ remaining_blocks_fault (block_stream_from l.initial.blocks)

abbrev pub decreases-loop-block : goal.decreases-loop-block
decreases-loop-block l = length l.blocks.left
