-- The tests at one offset, whose result is the end, a block and the distance to the next one, or the
-- first failed test. The rules are in `docs/formats.md`, "Container" ("A block is a header") and the
-- rows "each block, at its offset" of its table.
use Rattle.std.specs.Prelude.{ℕ, zero, suc, ◌+◌, ◌-◌, ◌/◌, ◌%◌, ◌^◌, ◌||◌, ◌==◌, nat_lt, if◌then◌else◌, List, length, take, drop, Option, Some, None}
use Rattle.base_core.specs.declared.Cause.{Cause}
use Rattle.base_core.specs.declared.Cause.TheVariants.{Truncated, BlockOrder}
use Rattle.adb_block.specs.BlockWithoutOffset.{BlockWithoutOffset, may_be_next_kind, least_payload_len, padding_of}
use Rattle.adb_block.specs.Header.{word_at, eight_byte_number_at}
use Rattle.adb_block.specs.declared.block.BlockKind.{BlockKind}
use Rattle.adb_block.specs.declared.block.BlockKind.TheVariants.{Adb, Signature, Contents}

-- the fields of a block's header
pub record HeadFields : Type 0 where
  -- the number of the kind
  pub kind : ℕ
  -- the length of the header in bytes
  pub len : ℕ
  -- the length of the header and the payload in bytes
  pub raw : ℕ

-- the fields of a header of four bytes, read as the number `word`: the kind in the top two bits, and the raw size in
-- the other 30
abbrev pub fields_of_short_head : ℕ → HeadFields
fields_of_short_head word = record { kind = word / 2 ^ 30; len = 4; raw = word % 2 ^ 30 }

-- the fields of a header of 16 bytes: the kind is in the low 30 bits of its first four bytes (`word`), and the raw size
-- is in its last eight bytes
abbrev pub fields_of_long_head : ℕ → ℕ → HeadFields
fields_of_long_head word raw = record { kind = word % 2 ^ 30; len = 16; raw = raw }

-- the fields of the header at the front of the bytes, or None if the header is not complete. The number 3 in the top
-- two bits of its first four bytes marks a header of 16 bytes
unfoldable pub block_head_fields : List ℕ → Option HeadFields
block_head_fields bytes =
    if nat_lt (length bytes) 4 then None
    else if word_at 0 bytes / 2 ^ 30 == 3 then
    (if nat_lt (length bytes) 16 then None
    else Some (fields_of_long_head (word_at 0 bytes) (eight_byte_number_at 8 bytes)))
    else Some (fields_of_short_head (word_at 0 bytes))

-- the kind of block with this number in a header, or None if no kind has it; the numbers are 0, 1 and 2
abbrev pub kind_of_number : ℕ → Option BlockKind
kind_of_number zero = Some Adb
kind_of_number (suc zero) = Some Signature
kind_of_number (suc (suc zero)) = Some Contents
kind_of_number (suc (suc (suc n))) = None

-- what a reader finds at one offset of a file: the end of the file (`ended`), the first failed test (`failed`), or a
-- block and the distance to the next block, padding included (`block`)
pub data NextBlockResult : Type 0 where
  ended : NextBlockResult
  failed : Cause → NextBlockResult
  block : BlockWithoutOffset → ℕ → NextBlockResult

-- the result for a block at the offset `at` whose header has an allowed kind: first the raw size is tested, then the
-- length of the payload. `bytes` are the bytes of the file from the offset on
abbrev pub next_block_result_by_raw_size : ℕ → List ℕ → HeadFields → BlockKind → NextBlockResult
next_block_result_by_raw_size at bytes head kind =
    if nat_lt head.raw head.len || nat_lt (length bytes) head.raw then failed (Truncated at)
    else if nat_lt (head.raw - head.len) (least_payload_len kind) then failed (Truncated at)
    else block (record { kind = kind; payload = take (head.raw - head.len) (drop head.len bytes) })
    (head.raw + padding_of head.raw)

-- the result for a block with a complete header: first its kind is tested, then its size. The last argument is the kind
-- with the number in the header, or None if no kind has it
abbrev pub next_block_result_by_kind_order : Option BlockKind → ℕ → List ℕ → HeadFields → Option BlockKind
    → NextBlockResult
next_block_result_by_kind_order last at bytes head None = failed (BlockOrder at)
next_block_result_by_kind_order last at bytes head (Some kind) =
    if may_be_next_kind last kind then next_block_result_by_raw_size at bytes head kind else failed
    (BlockOrder at)

-- the result if bytes are left: a fault if they begin with no complete header, else the result of the tests of the
-- header's kind and size. The last argument is the header, or None if it is not complete
abbrev pub next_block_result_by_header : Option BlockKind → ℕ → List ℕ → Option HeadFields → NextBlockResult
next_block_result_by_header last at bytes None = failed (Truncated at)
next_block_result_by_header last at bytes (Some head) =
    next_block_result_by_kind_order last at bytes head (kind_of_number head.kind)

-- the result at the end of the file, whose offset is `at`: the end, or a fault if the file has no block
abbrev pub next_block_result_at_file_end : Option BlockKind → ℕ → NextBlockResult
next_block_result_at_file_end None at = failed (Truncated at)
next_block_result_at_file_end (Some kind) at = ended

-- what a reader finds at the offset `at` after a block of the kind `last` (None: before the first); `bytes` are the
-- bytes of the file from this offset on
unfoldable pub next_block_result_at_offset : Option BlockKind → ℕ → List ℕ → NextBlockResult
next_block_result_at_offset last at bytes =
    if length bytes == 0 then next_block_result_at_file_end last at else next_block_result_by_header last at bytes (block_head_fields bytes)
