-- The bytes of contents blocks.
-- The rules are in `docs/formats.md`, "The other blocks" (the two positions and the bytes) and
-- "Container" (header and padding). Serves the contracts of `src/packing.rt`.
use Rattle.std.specs.Prelude.{◌≡◌, ℕ, ◌+◌, ◌-◌, ◌≤◌, List, ◌++◌, length, take}
use Rattle.std.specs.Int.{w32, to_le_bytes}
use Rattle.std.specs.List.{flat_map}
use Rattle.adb_block.specs.Written.{block_bytes, head_bytes}
use Rattle.adb_block.specs.declared.block.BlockKind.TheVariants as Kinds
use Rattle.adb_sound.specs.pkg_core.Contents.{Contents}
use Rattle.adb_sound.specs.Container.{block_of_contents}

-- the bytes of the block with the contents of one file: header, two positions, the bytes of the file, and
-- padding
abbrev pub contents_block : Contents → List ℕ
contents_block contents = block_bytes (block_of_contents contents)

-- the bytes of the blocks with these contents, one after the other
abbrev pub contents_blocks : List Contents → List ℕ
contents_blocks contents = flat_map contents_block contents

-- the bytes before those of a file in its block of contents: the header, and the positions of the folder
-- and of the file, of four bytes each. The file has `size` bytes
abbrev pub contents_front : ℕ → ℕ → ℕ → List ℕ
contents_front folder file size =
    head_bytes Kinds.Contents (8 + size) ++ (to_le_bytes w32 folder ++ to_le_bytes w32 file)

-- `later` is `before`, followed by the block of a file with these positions, without its padding. The
-- block has its header and the two positions, and then, from the offset `at` on, the bytes of the file
pub record HasBlockFront (folder file : ℕ) (before later : List ℕ) (at : ℕ) : Type 0 where
  -- the offset is within the bytes
  pub within : at ≤ length later
  -- the bytes before the offset are `before`, the header of the block and the two positions
  pub front : take at later ≡ before ++ contents_front folder file (length later - at)
