-- All blocks that a reader finds in sequence, up to the end or the first failed test. The rules are in
-- `docs/formats.md`, "Container", whose table has the tests of each block in their order.
use Rattle.std.specs.Prelude.{ℕ, zero, suc, ◌+◌, List, length, drop, Option, Some}
use Rattle.base_core.specs.declared.Cause.{Cause}
use Rattle.base_core.specs.declared.Cause.TheVariants.{Truncated}
use Rattle.adb_block.specs.BlockWithoutOffset.{BlockWithoutOffset}
use Rattle.adb_block.specs.Framing.{NextBlockResult, ended, failed, block, next_block_result_at_offset}
use Rattle.adb_block.specs.PositionBetweenBlocks.{PositionBetweenBlocks}
use Rattle.adb_block.specs.declared.block.BlockKind.{BlockKind}

-- what a reader finds in a file from some offset on: the end (`done`), the first failed test (`fault`), or a block, its
-- offset, and what the reader finds after this block (`more`)
pub data Reading : Type 0 where
  done : Reading
  fault : Cause → Reading
  more : BlockWithoutOffset → ℕ → Reading → Reading

-- the reading that begins with the given result of the tests at the offset `at`. The end or a fault ends the reading;
-- after a block `further` gives the rest of the reading, from the block and its distance to the next block
abbrev pub block_stream_with_rest_by_padded_size : ℕ → (BlockWithoutOffset → ℕ → Reading) → NextBlockResult
    → Reading
block_stream_with_rest_by_padded_size at further ended = done
block_stream_with_rest_by_padded_size at further (failed c) = fault c
block_stream_with_rest_by_padded_size at further (block b size) = more b at (further b size)

-- the reading from the offset `at` on, after a block of the kind `last` (None: before the first); `bytes` are the bytes
-- from there on. The first argument bounds the number of blocks; the number of bytes plus one is always enough
unfoldable pub bounded_block_stream_from_offset : ℕ → Option BlockKind → ℕ → List ℕ → Reading
bounded_block_stream_from_offset zero last at bytes = fault (Truncated at)
bounded_block_stream_from_offset (suc n) last at bytes =
    block_stream_with_rest_by_padded_size at
    (λ b size. bounded_block_stream_from_offset n (Some b.kind) (at + size) (drop size bytes))
    (next_block_result_at_offset last at bytes)

-- the reading of a file from a reader's position on
unfoldable pub block_stream_from : PositionBetweenBlocks → Reading
block_stream_from s = bounded_block_stream_from_offset (suc (length s.left)) s.last s.at s.left
