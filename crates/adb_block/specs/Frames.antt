-- A block by its frame (its kind, and the lengths of its header and its payload), and the headers and blocks of the
-- program as values of the definitions. Serves the contracts of `frame_of` and `head_len` (their row in the README of
-- this crate); the fields of a header are defined in `docs/formats.md`, "Container" ("A block is a header").
use Rattle.std.specs.Prelude.{◌≡◌, ◌≤◌, ℕ, ◌+◌, ◌/◌, ◌^◌, ◌==◌, nat_lt, if◌then◌else◌, List, length, take, drop, Option, Some, None, Result, Ok, Err}
use Rattle.base_core.specs.declared.Cause.{Cause}
use Rattle.adb_block.specs.BlockWithoutOffset.{BlockWithoutOffset, padding_of}
use Rattle.adb_block.specs.Header.{word_at}
use Rattle.adb_block.specs.Framing.{HeadFields, NextBlockResult, ended, failed, block}
use Rattle.adb_block.specs.declared.block.BlockHead.{BlockHead}
use Rattle.adb_block.specs.declared.block.Frame.{Frame}
use Rattle.adb_block.specs.declared.block.ReadBlock.{ReadBlock}

-- ---- a block by its header

-- the length in bytes of a header that begins with these bytes: 16 if the top two bits of its first four bytes are 3,
-- else 4
abbrev pub head_len : List ℕ → ℕ
head_len bytes =
    if nat_lt (length bytes) 4 then 4 else if word_at 0 bytes / 2 ^ 30 == 3 then 16 else 4

-- `head` has the first of the `left` bytes from a block's offset to the file's end: all bytes of the block's header, if
-- the file has them all
pub record IsHeadPrefix (head : List ℕ) (left : ℕ) : Type 0 where
  -- `head` has no more bytes than are left
  pub within : length head ≤ left
  -- if the file has all bytes of the header, `head` has them all
  pub whole : head_len head ≤ left → head_len head ≤ length head

-- the length of the header and the payload of a framed block together, in bytes
abbrev pub raw_size : Frame → ℕ
raw_size frame = frame.head_len + frame.payload_len

-- the block with this frame at the front of these bytes
abbrev pub framed_piece : Frame → List ℕ → BlockWithoutOffset
framed_piece frame bytes =
    record { kind = frame.kind; payload = take frame.payload_len (drop frame.head_len bytes) }

-- the result of `frame_of` for `bytes`, the rest of a file, is the result of the tests: the frame of the block, the
-- end, or the first failed test
abbrev pub IsFrameOrEndOfBlockResult : Result (Option Frame) Cause → List ℕ → NextBlockResult → Type 0
IsFrameOrEndOfBlockResult (Ok None) bytes s = s ≡ ended
IsFrameOrEndOfBlockResult (Ok (Some frame)) bytes s =
    s ≡ block (framed_piece frame bytes) (raw_size frame + padding_of (raw_size frame))
IsFrameOrEndOfBlockResult (Err c) bytes s = s ≡ failed c

-- the result is that of the tests: the frame of the block at the front of these bytes, or the first failed test. The
-- result of the tests is not the end
abbrev pub IsFrameOfBlockResult : Result Frame Cause → List ℕ → NextBlockResult → Type 0
IsFrameOfBlockResult (Ok frame) bytes s =
    s ≡ block (framed_piece frame bytes) (raw_size frame + padding_of (raw_size frame))
IsFrameOfBlockResult (Err c) bytes s = s ≡ failed c

-- ---- a block in a file in memory

-- the fields of a header that the program has read
abbrev pub fields_of : BlockHead → HeadFields
fields_of head = record { kind = head.kind; len = head.len; raw = head.raw }

-- the kind and the payload of a block that the program has read
abbrev pub piece_in : ReadBlock → BlockWithoutOffset
piece_in b = record { kind = b.kind; payload = b.payload.now }

-- the result of the program is that of the tests: the end, a block and the distance to the next block, or the first
-- failed test
abbrev pub IsReadBlock : Result (Option ReadBlock) Cause → NextBlockResult → Type 0
IsReadBlock (Ok None) s = s ≡ ended
IsReadBlock (Ok (Some b)) s = s ≡ block (piece_in b) b.size
IsReadBlock (Err c) s = s ≡ failed c
