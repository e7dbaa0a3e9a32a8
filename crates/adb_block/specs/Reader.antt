-- The result of a call of the reader, and its positions before and after. Serves the contract of
-- `Blocks`, as the rows of `Blocks::next` in the README of this crate say; the rules are in
-- `docs/formats.md`, "Container".
use Rattle.std.specs.Prelude.{◌≡◌, ◌↔◌, ℕ, ◌+◌, ◌-◌, ◌==◌, ◌<◌, if◌then◌else◌, List, [], ◌∷◌, length, drop, Option, Some, None, IsSome, Result, Ok, Err}
use Rattle.base_core.specs.declared.Cause.{Cause}
use Rattle.adb_block.specs.Container.{IsBlock, MayFollow, SpellsBlocks}
use Rattle.adb_block.specs.BlockWithoutOffset.{BlockWithoutOffset}
use Rattle.adb_block.specs.Framing.{ended, failed, block, next_block_result_at_offset}
use Rattle.adb_block.specs.PositionBetweenBlocks.{PositionBetweenBlocks}
use Rattle.adb_block.specs.Reading.{Reading, done, fault, more}
use Rattle.adb_block.specs.AllBlocks.{with_block, blocks_from_position}
use Rattle.adb_block.specs.declared.block.Block.{Block}
use Rattle.adb_block.specs.declared.block.BlockKind.{BlockKind}

-- the position of a reader after a block of this kind, which has this size with its padding
abbrev pub reader_after_block : PositionBetweenBlocks → BlockKind → ℕ → PositionBetweenBlocks
reader_after_block s kind size =
    record { schema = s.schema; last = Some kind; at = s.at + size; left = drop size s.left }

-- the offset of the next block, or None if the position is at or past the file's end
abbrev pub next_offset : PositionBetweenBlocks → Option ℕ
next_offset s = if length s.left == 0 then None else Some s.at

-- a block of the program as a block of the grammar: its kind and its payload
abbrev pub piece_of : Block → BlockWithoutOffset
piece_of b = record { kind = b.kind; payload = b.payload.now }

-- the bytes of the file from the reader's position on are these blocks, by the grammar
abbrev pub SpelledFrom : PositionBetweenBlocks → List BlockWithoutOffset → Type 0
SpelledFrom s bs = SpellsBlocks s.last s.left bs

-- a list of blocks begins with this one, and `Goes` holds for the blocks after it
abbrev pub BeginsWith : BlockWithoutOffset → (List BlockWithoutOffset → Type 0) → List BlockWithoutOffset
    → Type 0
BeginsWith b Goes [] = ⊥
BeginsWith b Goes (c ∷ bs) = (c ≡ b) × Goes bs

-- a call of the reader, at the position `s` before and `t` after it, returns the next block of the grammar. If it
-- returns a block, the rest of the file is, by the grammar, this block and the blocks from `t` on. If it returns None,
-- no block is left. If it returns an error, the rest of the file is no list of blocks
abbrev pub ReturnsNextSpelledBlock : PositionBetweenBlocks → Result (Option Block) Cause
    → PositionBetweenBlocks → Type 0
ReturnsNextSpelledBlock s (Ok None) t = (bs : List BlockWithoutOffset) → SpelledFrom s bs ↔ (bs ≡ [])
ReturnsNextSpelledBlock s (Ok (Some b)) t =
    (bs : List BlockWithoutOffset) → SpelledFrom s bs ↔ BeginsWith (piece_of b) (SpelledFrom t) bs
ReturnsNextSpelledBlock s (Err c) t = (bs : List BlockWithoutOffset) → ¬ SpelledFrom s bs

-- the result of a call is that of the tests at the old position `s`: the end, a block and its distance to the next
-- block, or the first failed test. `t` is the new position
abbrev pub IsNextBlockResultAtPosition : PositionBetweenBlocks → Result (Option Block) Cause
    → PositionBetweenBlocks
    → Type 0
IsNextBlockResultAtPosition s (Ok None) t = next_block_result_at_offset s.last s.at s.left ≡ ended
IsNextBlockResultAtPosition s (Ok (Some b)) t =
    next_block_result_at_offset s.last s.at s.left ≡ block (piece_of b) (t.at - s.at)
IsNextBlockResultAtPosition s (Err c) t = next_block_result_at_offset s.last s.at s.left ≡ failed c

-- a call of the reader has read the block `b` and moved from the position `s` to `t`
pub record Advances (s : PositionBetweenBlocks) (b : Block) (t : PositionBetweenBlocks) : Type 0 where
  -- the block's offset is the old position
  pub at : b.at ≡ s.at
  -- the block may follow the block before it
  pub follows : MayFollow s.last (piece_of b)
  -- the bytes between the positions are its header, payload and padding
  pub is_block : IsBlock (piece_of b) s.left t.left
  -- the new position is after its padding
  pub located : t ≡ reader_after_block s b.kind (t.at - s.at)
  -- fewer bytes are left, so a loop over all blocks ends
  pub shorter : length t.left < length s.left

-- a call of the reader has found the end: nothing is left, at least one block was read, and the reader
-- has not moved
pub record FindsEndOfBlocks (s t : PositionBetweenBlocks) : Type 0 where
  -- nothing is left
  pub empty : s.left ≡ []
  -- at least one block was read
  pub later : IsSome s.last
  -- the reader has not moved
  pub stays : t ≡ s

-- `r` is the reading from the old position on, given the result of a call and the reading `q` from the new position on
abbrev pub ContinuesReading : Reading → Result (Option Block) Cause → Reading → Type 0
ContinuesReading r (Ok None) q = r ≡ done
ContinuesReading r (Ok (Some b)) q = r ≡ more (piece_of b) b.at q
ContinuesReading r (Err c) q = r ≡ fault c

-- `r` are all blocks from the old position on, or the first failed test, given the result of a call, and all blocks or
-- the first failed test from the new position on (`q`)
abbrev pub AreBlocksFromCall : Result (List BlockWithoutOffset) Cause → Result (Option Block) Cause
    → Result (List BlockWithoutOffset) Cause → Type 0
AreBlocksFromCall r (Ok None) q = r ≡ Ok []
AreBlocksFromCall r (Ok (Some b)) q = r ≡ with_block (piece_of b) q
AreBlocksFromCall r (Err c) q = r ≡ Err c

-- `r` are all blocks of a file, or the first failed test, given the result for its header: the reader's first position,
-- or the fault of the header
abbrev pub AreBlocksOrHeaderFault : Result (List BlockWithoutOffset) Cause
    → Result PositionBetweenBlocks Cause → Type 0
AreBlocksOrHeaderFault r (Ok s) = r ≡ blocks_from_position s
AreBlocksOrHeaderFault r (Err c) = r ≡ Err c
