-- The blocks that are left have the same fault, and are fewer.
use Rattle.std.proofs.Common.{◌≡◌, length}
use Rattle.adb_block.specs.Reading.{block_stream_from}
use Rattle.outcome.specs.Dump.{framing_fault_of_blocks}
use Rattle.apk_front.proofs.dump.check_framing.Given as goal

abbrev pub invariant-loop : goal.invariant-loop
invariant-loop l = framing_fault_of_blocks (block_stream_from l.blocks) ≡ framing_fault_of_blocks (block_stream_from l.initial.blocks)

abbrev pub decreases-loop : goal.decreases-loop
decreases-loop l = length l.blocks.left
