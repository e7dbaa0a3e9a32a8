-- All blocks from a position on, or the first failed test. Serves the contract of `Blocks` and the laws
-- over *IsContainerWithBlocks*, as the README of this crate says; the rules are in `docs/formats.md`, "Container".
use Rattle.std.specs.Prelude.{ℕ, List, [], ◌∷◌, Result, Ok, Err}
use Rattle.base_core.specs.declared.Cause.{Cause}
use Rattle.adb_block.specs.BlockWithoutOffset.{BlockWithoutOffset}
use Rattle.adb_block.specs.Header.{schema_of_header}
use Rattle.adb_block.specs.PositionBetweenBlocks.{PositionBetweenBlocks, first_block_position_of_schema_and_file}
use Rattle.adb_block.specs.Reading.{Reading, done, fault, more, block_stream_from}

-- the block `b` followed by the blocks after it, or the failed test with which the reading after it ended
abbrev pub with_block : BlockWithoutOffset → Result (List BlockWithoutOffset) Cause
    → Result (List BlockWithoutOffset) Cause
with_block b (Ok bs) = Ok (b ∷ bs)
with_block b (Err c) = Err c

-- all blocks of a reading, or its first failed test
abbrev pub blocks_of_stream : Reading → Result (List BlockWithoutOffset) Cause
blocks_of_stream done = Ok []
blocks_of_stream (fault c) = Err c
blocks_of_stream (more b at r) = with_block b (blocks_of_stream r)

-- all blocks of a file from a reader's position on, or the first failed test
unfoldable pub blocks_from_position : PositionBetweenBlocks → Result (List BlockWithoutOffset) Cause
blocks_from_position s = blocks_of_stream (block_stream_from s)

-- all blocks after a header of the file, or the fault of the header
abbrev pub blocks_after_header : List ℕ → Result ℕ Cause → Result (List BlockWithoutOffset) Cause
blocks_after_header file (Ok schema) =
    blocks_from_position (first_block_position_of_schema_and_file schema file)
blocks_after_header file (Err c) = Err c

-- all blocks of a file, or the first failed test of its header or of its blocks
unfoldable pub blocks_of : List ℕ → Result (List BlockWithoutOffset) Cause
blocks_of file = blocks_after_header file (schema_of_header file)
