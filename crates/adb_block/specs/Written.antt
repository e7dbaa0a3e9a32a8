-- How blocks and containers are written: with the shortest header, and each block padded with zeros,
-- the last one too. The rules are in `docs/formats.md`, "Canonical layout" ("In a container each block
-- is padded"), and the form of a header in "Container" ("A block is a header").
use Rattle.std.specs.Prelude.{ℕ, ◌+◌, ◌*◌, ◌^◌, codes, List, ◌++◌, length, replicate, nat_lt, if◌then◌else◌}
use Rattle.std.specs.List.{flat_map}
use Rattle.std.specs.Int.{w32, w64, to_le_bytes}
use Rattle.adb_block.specs.BlockWithoutOffset.{BlockWithoutOffset, kind_number, padding_of}
use Rattle.adb_block.specs.declared.block.BlockKind.{BlockKind}

-- a header of four bytes for a payload of `len` bytes: the kind in the top two bits, and below it the raw size, which
-- counts the header too
abbrev pub short_head_bytes : BlockKind → ℕ → List ℕ
short_head_bytes kind len = to_le_bytes w32 (kind_number kind * 2 ^ 30 + (4 + len))

-- a header of sixteen bytes for a payload of `len` bytes: the number 3 in the top two bits with the kind below it, four
-- zeros, and the raw size, which counts the header too
abbrev pub long_head_bytes : BlockKind → ℕ → List ℕ
long_head_bytes kind len =
    to_le_bytes w32 (3 * 2 ^ 30 + kind_number kind)
    ++ (to_le_bytes w32 0 ++ to_le_bytes w64 (16 + len))

-- the header of a block whose payload has `len` bytes: the short one if the raw size fits in 30 bits
unfoldable pub head_bytes : BlockKind → ℕ → List ℕ
head_bytes kind len =
    if nat_lt (4 + len) (2 ^ 30) then short_head_bytes kind len else long_head_bytes kind len

-- a written block: its header, its payload, and padding of zeros
abbrev pub block_bytes : BlockWithoutOffset → List ℕ
block_bytes b =
    let head = head_bytes b.kind (length b.payload) in
    head ++ (b.payload ++ replicate (padding_of (length head + length b.payload)) 0)

-- the bytes of a container of this schema and these blocks
abbrev pub container : ℕ → List BlockWithoutOffset → List ℕ
container schema pieces = codes "ADB." ++ (to_le_bytes w32 schema ++ flat_map block_bytes pieces)
