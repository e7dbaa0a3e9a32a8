-- The position of a reader in the blocks of a package, and the result for a block. The rules are in
-- `docs/formats.md`, "The other blocks"; the framing of a block in "Container". Serves the contract of
-- `BlockPlace::step`.
use Rattle.std.specs.Prelude.{◌≡◌, ◌≤◌, ℕ, ◌+◌, ◌-◌, min, List, [], ◌∷◌, length, take, drop, Option, Some, None, Result, Ok, Err}
use Rattle.base_core.specs.declared.cause.Cause.{Cause}
use Rattle.adb_block.specs.Framing.{NextBlockResult as BlockStep, next_block_result_at_offset}
use Rattle.adb_block.specs.Frames.{framed_piece, raw_size}
use Rattle.adb_block.specs.BlockWithoutOffset.{padding_of}
use Rattle.adb_block.specs.Reading.{block_stream_from}
use Rattle.adb_block.specs.PositionBetweenBlocks.{PositionBetweenBlocks}
use Rattle.adb_block.specs.declared.block.BlockKind.TheVariants as Kinds
use Rattle.adb_block.specs.declared.block.Frame.{Frame}
use Rattle.pkg_core.specs.Contents.{POSITIONS_LEN, contents_from_block_payload}
use Rattle.pkg_core.specs.Opened.{expected_of, files_left_in_walk}
use Rattle.pkg_core.specs.declared.walk.Walk.{Walk}
use Rattle.pkg_core.specs.Pieces.{PiecesRead, no_piece, refusal, pieces_read_from_blocks}
use Rattle.pkg_core.specs.Taking.{HasTaken, file_bytes_left, pieces_in}
use Rattle.pkg_core.specs.declared.place.BlockPlace.{BlockPlace}
use Rattle.pkg_core.specs.declared.place.Step.{Step}
use Rattle.pkg_core.specs.declared.place.Step.TheVariants.{End, Passed, Opened}

-- ---- a place in a file

-- the position of a reader of blocks at a place of this file; its schema does not matter there, so it
-- is 0
abbrev pub reader_at_place : BlockPlace → List ℕ → PositionBetweenBlocks
reader_at_place place file =
    record { schema = 0; last = Some place.last; at = place.at; left = drop place.at file }

-- the result of reading the framing at a place of this file: a block, the end, or a fault of the framing
abbrev pub block_step_at : BlockPlace → List ℕ → BlockStep
block_step_at place file = next_block_result_at_offset (Some place.last) place.at (drop place.at file)

-- the pieces of the blocks of this file from a place on
abbrev pub pieces_at : BlockPlace → List ℕ → PiecesRead
pieces_at place file =
    pieces_read_from_blocks (files_left_in_walk place.walk) (block_stream_from (reader_at_place place file))

-- the payload of the block of this frame that is at a place of this file
abbrev pub payload_at : Frame → BlockPlace → List ℕ → List ℕ
payload_at frame place file = (framed_piece frame (drop place.at file)).payload

-- `positions` are the first eight bytes of the payload of the block of this frame at the place, if the
-- payload has as many. Without a frame nothing is stated
abbrev pub HasPositions : Option Frame → List ℕ → BlockPlace → List ℕ → Type 0
HasPositions None positions place file = Unit {0}
HasPositions (Some frame) positions place file =
    POSITIONS_LEN ≤ frame.payload_len → take POSITIONS_LEN (payload_at frame place file) ≡ positions

-- ---- a step

-- the size of a block with its padding, as far as the file has it: `left` bytes of the file are left from
-- the block on
abbrev pub whole_size : Frame → ℕ → ℕ
whole_size frame left = raw_size frame + min (padding_of (raw_size frame)) (left - raw_size frame)

-- the place after a block and its padding; the padding of the last block may be cut
abbrev pub place_after : BlockPlace → Frame → BlockPlace
place_after place frame = record {
  len = place.len;
  walk = place.walk;
  last = frame.kind;
  at = place.at + whole_size frame (place.len - place.at);
}

-- if the step opened a file, all its bytes are still to be taken: those of the payload of the block of
-- this frame after the positions
abbrev pub HasWholeFileLeft : Frame → Step → Type 0
HasWholeFileLeft frame End = Unit {0}
HasWholeFileLeft frame Passed = Unit {0}
HasWholeFileLeft frame (Opened f) = POSITIONS_LEN + file_bytes_left f ≡ frame.payload_len

-- if the step opened a file, the block of this frame is one of contents
abbrev pub OpensOnlyContents : Frame → Step → Type 0
OpensOnlyContents frame End = Unit {0}
OpensOnlyContents frame Passed = Unit {0}
OpensOnlyContents frame (Opened f) = frame.kind ≡ Kinds.Contents

-- the walk before and after a step: it passes an opened file, and no other; at the end it expects no file
abbrev pub IsWalkAfterStep : Walk → Step → Walk → Type 0
IsWalkAfterStep before End after = (files_left_in_walk before ≡ []) × (files_left_in_walk after ≡ [])
IsWalkAfterStep before Passed after = after ≡ before
IsWalkAfterStep before (Opened f) after =
    files_left_in_walk before ≡ expected_of f.wanted ∷ files_left_in_walk after

-- the result of a step from the place `before` of this file to the place `after`. `End`: no piece is
-- left. `Passed`: the pieces are those from the new place on. `Opened`: the pieces are those of the
-- opened file, and then those from the new place on. Or the first failed test
abbrev pub IsStepResult : Option Frame → BlockPlace → List ℕ → Result Step Cause → BlockPlace → Type 0
IsStepResult framing before file (Ok End) after = pieces_at before file ≡ no_piece
IsStepResult framing before file (Ok Passed) after = pieces_at before file ≡ pieces_at after file
IsStepResult None before file (Ok (Opened f)) after = ⊥
IsStepResult (Some frame) before file (Ok (Opened f)) after =
    (pieces_at before file
    ≡ pieces_in f [] (contents_from_block_payload (payload_at frame before file)) (pieces_at after file))
    × HasTaken f []
    × (length (contents_from_block_payload (payload_at frame before file)) ≡ f.wanted.size)
IsStepResult framing before file (Err c) after = pieces_at before file ≡ refusal c
