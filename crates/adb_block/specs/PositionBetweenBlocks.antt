-- The position of a reader of blocks. The rule is in `docs/formats.md`, "Container" ("Blocks follow,
-- the first at offset 8").
use Rattle.std.specs.Prelude.{ℕ, List, drop, Option, None}
use Rattle.adb_block.specs.declared.block.BlockKind.{BlockKind}

-- the position of a reader of the blocks of a file
pub record PositionBetweenBlocks : Type 0 where
  -- the schema of the file
  pub schema : ℕ
  -- the kind of the block before the position; None before the first block
  pub last : Option BlockKind
  -- the offset from the file's start
  pub at : ℕ
  -- the bytes of the file from this offset on
  pub left : List ℕ

-- the first position of a reader in a file with this schema: after the file's header, which has 8 bytes, and before the
-- first block
abbrev pub first_block_position_of_schema_and_file : ℕ → List ℕ → PositionBetweenBlocks
first_block_position_of_schema_and_file schema file =
    record { schema = schema; last = None; at = 8; left = drop 8 file }
