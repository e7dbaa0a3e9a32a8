-- Which test of a container's framing fails first: block by block, and of each block first its header,
-- then its kind, then its size. The rule is the order of the table in `docs/formats.md`, "Container",
-- rows "each block, at its offset".
use Rattle.std.specs.Prelude.{◌≡◌, ℕ, ◌+◌, ◌<◌, ◌⊎◌, false, true, List, [], ◌∷◌, length, drop, Option, Some, None}
use Rattle.base_core.specs.declared.Cause.{Cause}
use Rattle.base_core.specs.declared.Cause.TheVariants.{Truncated, BlockOrder}
use Rattle.adb_block.specs.BlockWithoutOffset.{BlockWithoutOffset, may_be_next_kind, least_payload_len}
use Rattle.adb_block.specs.Container.{IsBlock, MayFollow}
use Rattle.adb_block.specs.Framing.{HeadFields, block_head_fields, kind_of_number}
use Rattle.adb_block.specs.declared.block.BlockKind.{BlockKind}

-- `bytes`, after a block of the kind `last` (None: before the first), are these blocks followed by `rest`
abbrev pub BeginWithBlocks : Option BlockKind → List ℕ → List BlockWithoutOffset → List ℕ → Type 0
BeginWithBlocks last bytes [] rest = bytes ≡ rest
BeginWithBlocks last bytes (b ∷ bs) rest =
    (behind : List ℕ) × MayFollow last b × IsBlock b bytes behind
    × BeginWithBlocks (Some b.kind) behind bs rest

-- the kind of the last of these blocks, or `last` if there are none
abbrev pub last_kind : Option BlockKind → List BlockWithoutOffset → Option BlockKind
last_kind last [] = last
last_kind last (b ∷ bs) = last_kind (Some b.kind) bs

-- ---- the tests of one block, after a block of the kind `last`, in their order

-- the first test fails: the bytes, from the offset `at` on, begin with no complete header
pub record LackHeader (at : ℕ) (bytes : List ℕ) (c : Cause) : Type 0 where
  -- the bytes begin with no complete header
  pub head : block_head_fields bytes ≡ None
  -- the cause is `Truncated`, with the offset of the block
  pub cause : c ≡ Truncated at

-- a kind (the second argument) is not allowed after the kind `last`, or is unknown (None)
abbrev pub CannotFollow : Option BlockKind → Option BlockKind → Type 0
CannotFollow last None = Unit {0}
CannotFollow last (Some kind) = may_be_next_kind last kind ≡ false

-- the second test fails: the bytes begin with a complete header, whose kind is not allowed after the kind `last`
pub record HaveWrongKind (last : Option BlockKind) (at : ℕ) (bytes : List ℕ)
    (c : Cause) : Type 0 where
  -- the fields of the header
  pub head : HeadFields
  -- the bytes begin with this header
  pub is : block_head_fields bytes ≡ Some head
  -- the kind of the header is not allowed here
  pub wrong : CannotFollow last (kind_of_number head.kind)
  -- the cause is `BlockOrder`, with the offset of the block
  pub cause : c ≡ BlockOrder at

-- the raw size is too small for the header and the least payload of the kind, or exceeds the bytes
abbrev pub IsWrongSize : HeadFields → BlockKind → List ℕ → Type 0
IsWrongSize head kind bytes =
    (head.raw < head.len + least_payload_len kind) ⊎ (length bytes < head.raw)

-- the third test fails: the bytes begin with a header whose kind is allowed here, but whose size is wrong
pub record HaveWrongSize (last : Option BlockKind) (at : ℕ) (bytes : List ℕ)
    (c : Cause) : Type 0 where
  -- the fields of the header
  pub head : HeadFields
  -- the bytes begin with this header
  pub is : block_head_fields bytes ≡ Some head
  -- the kind of the block
  pub kind : BlockKind
  -- the header has the number of this kind
  pub is_kind : kind_of_number head.kind ≡ Some kind
  -- this kind is allowed here
  pub order : may_be_next_kind last kind ≡ true
  -- the raw size is wrong
  pub wrong : IsWrongSize head kind bytes
  -- the cause is `Truncated`, with the offset of the block
  pub cause : c ≡ Truncated at

-- the block at the offset `at` has the fault `c`: one of its three tests fails, and those before this test do not
abbrev pub HaveBlockFault : Option BlockKind → ℕ → List ℕ → Cause → Type 0
HaveBlockFault last at bytes c =
    LackHeader at bytes c ⊎ (HaveWrongKind last at bytes c ⊎ HaveWrongSize last at bytes c)

-- ---- the whole file

-- `c` is the first fault in the blocks of a file: some blocks pass their tests, and the block after them has this fault
pub record IsFirstBlockFramingFault (file : List ℕ) (c : Cause) : Type 0 where
  -- the blocks that pass their tests
  pub blocks : List BlockWithoutOffset
  -- the bytes after them
  pub rest : List ℕ
  -- after the file's header of 8 bytes the file begins with these blocks
  pub before : BeginWithBlocks None (drop 8 file) blocks rest
  -- the offset of the rest
  pub at : ℕ
  -- the rest, from this offset on, goes to the end of the file
  pub located : at + length rest ≡ length file
  -- the block at this offset has the fault
  pub fault : HaveBlockFault (last_kind None blocks) at rest c
