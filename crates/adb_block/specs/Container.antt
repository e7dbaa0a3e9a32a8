-- A container as a grammar on its whole bytes (apk-v3(5)). The rules are in `docs/formats.md`,
-- "Container", from "A file begins with" to "One ADB block comes first".
use Rattle.std.specs.Prelude.{◌≡◌, ℕ, ◌+◌, ◌*◌, ◌^◌, ◌<◌, ◌≤◌, ◌⊎◌, true, codes, List, [], ◌∷◌, ◌++◌, length, take, drop, Option, Some, None}
use Rattle.std.specs.Int.{w32, w64, from_le_bytes}
use Rattle.adb_block.specs.declared.block.BlockKind.{BlockKind}
use Rattle.adb_block.specs.BlockWithoutOffset.{BlockWithoutOffset, may_be_next_kind, kind_number, least_payload_len, padding_of}

-- a header of four bytes: the kind in the top two bits, below it the raw size, which counts the
-- header's 4 bytes and the `len` of the payload
pub record IsShortHead (kind : BlockKind) (len : ℕ) (head : List ℕ) : Type 0 where
  -- the header has 4 bytes
  pub size : length head ≡ 4
  -- the kind and the raw size, in one number
  pub word : from_le_bytes w32 head ≡ kind_number kind * 2 ^ 30 + (4 + len)
  -- the raw size fits below the kind
  pub small : 4 + len < 2 ^ 30

-- a header of sixteen bytes: the number 3 with the kind below it, four bytes that are ignored, and the
-- raw size, which counts the header's 16 bytes and the `len` of the payload
pub record IsLongHead (kind : BlockKind) (len : ℕ) (head : List ℕ) : Type 0 where
  -- the header has 16 bytes
  pub size : length head ≡ 16
  -- 3 in the top two bits, and the kind below
  pub word : from_le_bytes w32 (take 4 head) ≡ 3 * 2 ^ 30 + kind_number kind
  -- the raw size, after four bytes that are ignored
  pub raw : from_le_bytes w64 (drop 8 head) ≡ 16 + len

-- a header of a block of this kind whose payload has `len` bytes, in either form
abbrev pub IsHead : BlockKind → ℕ → List ℕ → Type 0
IsHead kind len head = IsShortHead kind len head ⊎ IsLongHead kind len head

-- `pad` is the padding after a header and a payload that have `size` bytes together, and `rest` is what follows in the
-- file. At the end of the file the padding may be shorter or absent
abbrev pub IsPadding : ℕ → List ℕ → List ℕ → Type 0
IsPadding size pad rest =
    (length pad ≡ padding_of size) ⊎ ((length pad < padding_of size) × (rest ≡ []))

-- `bytes` are the header, the payload and the padding of the block `b`, followed by `rest`
pub record IsBlock (b : BlockWithoutOffset) (bytes rest : List ℕ) : Type 0 where
  -- the bytes of the header
  pub head : List ℕ
  -- the padding
  pub pad : List ℕ
  -- the header is one of this kind and this length of the payload
  pub is_head : IsHead b.kind (length b.payload) head
  -- header, payload, padding and rest follow each other
  pub parts : bytes ≡ head ++ (b.payload ++ (pad ++ rest))
  -- the padding fills up the size of header and payload to a multiple of 8, or is shorter at the end of the file
  pub is_pad : IsPadding (length head + length b.payload) pad rest

-- the block `b` may follow a block of the kind `last` (None: `b` is the first), and its payload has at least the bytes
-- that its kind needs
pub record MayFollow (last : Option BlockKind) (b : BlockWithoutOffset) : Type 0 where
  -- the kind of `b` is allowed here
  pub order : may_be_next_kind last b.kind ≡ true
  -- the payload of `b` has at least the bytes that its kind needs
  pub long : least_payload_len b.kind ≤ length b.payload

-- the file may end here: at least one block precedes. The argument is the kind of the last block, None if there is none
abbrev pub HasBlockBefore : Option BlockKind → Type 0
HasBlockBefore None = ⊥
HasBlockBefore (Some kind) = Unit {0}

-- `bytes`, which are the rest of a file after a block of the kind `last` (None: before the first), are exactly these
-- blocks
abbrev pub SpellsBlocks : Option BlockKind → List ℕ → List BlockWithoutOffset → Type 0
SpellsBlocks last bytes [] = (bytes ≡ []) × HasBlockBefore last
SpellsBlocks last bytes (b ∷ bs) =
    (rest : List ℕ) × MayFollow last b × IsBlock b bytes rest × SpellsBlocks (Some b.kind) rest bs

-- a file is a container of this schema with these blocks: `ADB.`, the four bytes of the schema, and
-- the blocks
pub record IsContainerWithBlocks (file : List ℕ) (schema : ℕ)
    (pieces : List BlockWithoutOffset) : Type 0 where
  -- the four bytes of the schema
  pub word : List ℕ
  -- the bytes of the blocks
  pub body : List ℕ
  -- the file is `ADB.`, the schema and the blocks
  pub parts : file ≡ codes "ADB." ++ (word ++ body)
  -- the schema has four bytes
  pub four : length word ≡ 4
  -- they are the schema as a little-endian number
  pub is_schema : from_le_bytes w32 word ≡ schema
  -- the bytes after the schema are these blocks
  pub blocks : SpellsBlocks None body pieces

-- these blocks, which are all further blocks of a file, may be written in this order after a block of the kind `last`
-- (None: before the first). The size of each payload, with the 16 bytes of the longest header, fits in 64 bits
abbrev pub CanBlocksBeWrittenAfter : Option BlockKind → List BlockWithoutOffset → Type 0
CanBlocksBeWrittenAfter last [] = HasBlockBefore last
CanBlocksBeWrittenAfter last (b ∷ bs) =
    MayFollow last b × (length b.payload + 16 < 2 ^ 64) × CanBlocksBeWrittenAfter (Some b.kind) bs
