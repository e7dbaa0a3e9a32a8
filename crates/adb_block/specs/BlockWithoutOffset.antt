-- One block: its kind, its payload, and which kind may follow which. The rules are in
-- `docs/formats.md`, "Container": the kinds and the padding below "A block is a header", the order
-- below "One ADB block comes first".
use Rattle.std.specs.Prelude.{ℕ, ◌-◌, ◌%◌, Bool, true, false, List, Option, Some, None}
use Rattle.adb_block.specs.declared.block.BlockKind.{BlockKind}
use Rattle.adb_block.specs.declared.block.BlockKind.TheVariants.{Adb, Signature, Contents}

-- a block, without its offset
pub record BlockWithoutOffset : Type 0 where
  -- what the block contains
  pub kind : BlockKind
  -- the bytes of the block, without header and padding
  pub payload : List ℕ

-- the number of a kind of block in a header
abbrev pub kind_number : BlockKind → ℕ
kind_number Adb = 0
kind_number Signature = 1
kind_number Contents = 2

-- how many bytes of padding follow a header and a payload that have this size together: up to the next multiple of 8
abbrev pub padding_of : ℕ → ℕ
padding_of size = (8 - size % 8) % 8

-- whether a block of the second kind may follow a block of the first kind, or be the first block (None). The order is:
-- one ADB block, then signatures, then contents
abbrev pub may_be_next_kind : Option BlockKind → BlockKind → Bool
may_be_next_kind None Adb = true
may_be_next_kind None Signature = false
may_be_next_kind None Contents = false
may_be_next_kind (Some last) Adb = false
may_be_next_kind (Some Contents) Signature = false
may_be_next_kind (Some Adb) Signature = true
may_be_next_kind (Some Signature) Signature = true
may_be_next_kind (Some last) Contents = true

-- the least length in bytes of the payload of a block of this kind: an ADB block has a head of 8
abbrev pub least_payload_len : BlockKind → ℕ
least_payload_len Adb = 8
least_payload_len Signature = 0
least_payload_len Contents = 0
