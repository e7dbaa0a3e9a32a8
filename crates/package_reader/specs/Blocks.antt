-- The parts of a block that were read, and the result for a block. The rules are in `docs/formats.md`,
-- "The other blocks"; the framing of a block in "Container". Serves the contracts of `block`.
use Rattle.std.specs.Prelude.{◌≡◌, ◌≤◌, ◌<◌, ℕ, ◌+◌, min, List, [], ◌∷◌, length, drop, Option, Some, None, Result, Ok, Err}
use Rattle.adb_block.specs.Frames.{IsFrameOrEndOfBlockResult, raw_size}
use Rattle.adb_block.specs.declared.block.Frame.{Frame}
use Rattle.pkg_core.specs.Contents.{POSITIONS_LEN}
use Rattle.pkg_core.specs.Opened.{expected_of, files_left_in_walk}
use Rattle.pkg_core.specs.declared.walk.Walk.{Walk}
use Rattle.pkg_core.specs.Pieces.{no_piece, refusal}
use Rattle.pkg_core.specs.Places.{HasPositions, pieces_at, block_step_at}
use Rattle.pkg_core.specs.declared.place.BlockPlace.{BlockPlace}
use Rattle.pkg_core.specs.Taking.{file_bytes_left}
use Rattle.package_reader.specs.Opened.{IsOpenFile}
use Rattle.package_reader.specs.declared.block.BlockRead.{BlockRead}
use Rattle.package_reader.specs.declared.block.BlockStep.{BlockStep}
use Rattle.package_reader.specs.declared.block.BlockStep.TheVariants.{End, Passed, Opened}
use Rattle.package_reader.specs.declared.piece.PieceFault.{PieceFault}
use Rattle.package_reader.specs.declared.piece.PieceFault.TheVariants.{Bad, Disk}

-- how many bytes of a block precede its payload: those of its header
abbrev pub head_size : Option Frame → ℕ
head_size None = 0
head_size (Some frame) = frame.head_len

-- the bytes `seen` of the payload of the block with this frame were read. They are `positions`, its first
-- eight bytes, if the payload has as many; otherwise they are no more than the payload has
abbrev pub SeesPositions : Option Frame → List ℕ → List ℕ → Type 0
SeesPositions None positions seen = seen ≡ []
SeesPositions (Some frame) positions seen =
    (length seen ≤ frame.payload_len) × (POSITIONS_LEN ≤ frame.payload_len → seen ≡ positions)

-- at most the bytes of the block's header and of its positions were read: `seen` counts the bytes that
-- were read
abbrev pub AreSeenWithinPositions : Option Frame → ℕ → Type 0
AreSeenWithinPositions None seen = Unit {0}
AreSeenWithinPositions (Some frame) seen = seen ≤ frame.head_len + min POSITIONS_LEN frame.payload_len

-- the result of reading the header and the positions of the block at this place of the file: its frame
-- and its positions. Or the first failed test
abbrev pub IsBlockRead : BlockPlace → List ℕ → Result BlockRead PieceFault → Type 0
IsBlockRead place file (Ok read) =
    IsFrameOrEndOfBlockResult (Ok read.framing) (drop place.at file) (block_step_at place file)
    × HasPositions read.framing read.positions place file
IsBlockRead place file (Err (Bad c)) = pieces_at place file ≡ refusal c
IsBlockRead place file (Err Disk) = Unit {0}

-- the result for the block at the place `before` of this package, and the place `after` it. `End`: no
-- block is left; `Passed`: the block has no contents; `Opened`: it has the contents of a file; or the
-- first failed test
abbrev pub IsNextBlock : BlockPlace → List ℕ → Result BlockStep PieceFault → BlockPlace → Type 0
IsNextBlock before file (Ok End) after = pieces_at before file ≡ no_piece
IsNextBlock before file (Ok Passed) after = pieces_at before file ≡ pieces_at after file
IsNextBlock before file (Ok (Opened o)) after =
    IsOpenFile o [] file (pieces_at after file) (pieces_at before file)
IsNextBlock before file (Err (Bad c)) after = pieces_at before file ≡ refusal c
IsNextBlock before file (Err Disk) after = Unit {0}

-- after a passed block the place is later, and within the package. The unread bytes of an opened file end
-- no later than the new place, which is within the package
abbrev pub IsAtLaterPlace : BlockPlace → BlockStep → BlockPlace → Type 0
IsAtLaterPlace before End after = Unit {0}
IsAtLaterPlace before Passed after = (before.at < after.at) × (after.at ≤ after.len)
IsAtLaterPlace before (Opened o) after =
    (o.at + file_bytes_left o.file ≤ after.at) × (after.at ≤ after.len)

-- the bytes that were read end at the offset `end`. The next read begins no earlier: at the place
-- `after`, or in the opened file
abbrev pub ReadEndsBeforeNext : ℕ → BlockStep → BlockPlace → Type 0
ReadEndsBeforeNext end End after = Unit {0}
ReadEndsBeforeNext end Passed after = end ≤ after.at
ReadEndsBeforeNext end (Opened o) after = end ≤ o.at

-- the walk before and after a block: it passes an opened file, and no other; at the end no file was
-- expected
abbrev pub IsWalkAfterBlock : Walk → BlockStep → Walk → Type 0
IsWalkAfterBlock before End after = files_left_in_walk before ≡ []
IsWalkAfterBlock before Passed after = after ≡ before
IsWalkAfterBlock before (Opened o) after =
    files_left_in_walk before ≡ expected_of o.file.wanted ∷ files_left_in_walk after
