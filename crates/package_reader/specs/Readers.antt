-- The position of a reader of the pieces of a package, and the result of a call. The rules are in
-- `docs/formats.md`, "The other blocks", point 2 of the last list; the order of the files in the second
-- paragraph. Serves the contracts of `PieceReader`.
use Rattle.std.specs.Prelude.{◌≡◌, ℕ, ◌+◌, ◌-◌, if◌then◌else◌, List, [], ◌∷◌, is_none, Option, Some, None, IfSome, Result, Ok, Err}
use Rattle.base_core.specs.declared.cause.Cause.{Cause}
use Rattle.pkg_core.specs.Contents.{ExpectedFile}
use Rattle.pkg_core.specs.Opened.{expected_of, files_left_in_walk}
use Rattle.pkg_core.specs.declared.walk.Walk.{Walk}
use Rattle.pkg_core.specs.Pieces.{PiecesRead, no_piece, part_of, piece, refusal}
use Rattle.pkg_core.specs.Places.{pieces_at}
use Rattle.pkg_core.specs.declared.file.Part.{Part}
use Rattle.pkg_core.specs.declared.place.BlockPlace.{BlockPlace}
use Rattle.pkg_core.specs.Seen.{HasBytesAtOffset}
use Rattle.package_reader.specs.Opened.{IsOpenFile}
use Rattle.package_reader.specs.declared.piece.PieceFault.{PieceFault}
use Rattle.package_reader.specs.declared.piece.PieceFault.TheVariants.{Bad, Disk}
use Rattle.package_reader.specs.declared.open.OpenFile.{OpenFile}
use Rattle.package_reader.specs.declared.reader.Due.{Due}
use Rattle.package_reader.specs.declared.reader.Due.TheVariants.{Files, Nothing, Refused}
use Rattle.package_reader.specs.declared.reader.PieceReader.{PieceReader}

-- ---- the fields of a reader

-- the name of the package that a reader reads
abbrev pub name_in_tree : PieceReader → List ℕ
name_in_tree reader = reader.name.now

-- how many bytes the package of a reader has
abbrev pub package_len : PieceReader → ℕ
package_len reader = reader.place.len

-- the offset of the byte that is read next: the next byte of the open file, or the first byte of the next
-- block if no file is open
abbrev pub next_read_offset : BlockPlace → Option OpenFile → ℕ
next_read_offset place None = place.at
next_read_offset place (Some o) = o.at

-- the offset of the byte that a reader reads next
abbrev pub offset_of : PieceReader → ℕ
offset_of reader = next_read_offset reader.place reader.opened

-- the files whose last piece is still to be read: the open file, if one is open, and those that the walk
-- has left
abbrev pub files_to_read_in : BlockPlace → Option OpenFile → List ExpectedFile
files_to_read_in place None = files_left_in_walk place.walk
files_to_read_in place (Some o) = expected_of o.file.wanted ∷ files_left_in_walk place.walk

-- the files whose last piece is still to be read by a reader in this state: none after the last block,
-- or after a failed test
abbrev pub files_to_read_in_state : Due → BlockPlace → Option OpenFile → List ExpectedFile
files_to_read_in_state Files place opened = files_to_read_in place opened
files_to_read_in_state Nothing place opened = []
files_to_read_in_state (Refused c) place opened = []

-- the files of a reader whose last piece is still to be read
abbrev pub files_to_read : PieceReader → List ExpectedFile
files_to_read reader = files_to_read_in_state reader.due reader.place reader.opened

-- a reader can continue: no test failed, and the last block was not passed
abbrev pub CanContinue : PieceReader → Type 0
CanContinue reader = reader.due ≡ Files

-- a reader can continue, and is between two files: none is open
abbrev pub IsBetweenFiles : PieceReader → Type 0
IsBetweenFiles reader = CanContinue reader × (reader.opened ≡ None)

-- ---- the pieces to be read, of a package of these bytes

-- these are the pieces of the rest of the open file, if one is open, followed by those of the blocks from
-- the place on
abbrev pub ArePiecesFrom : BlockPlace → Option OpenFile → List ℕ → PiecesRead → Type 0
ArePiecesFrom place None pkg pieces = pieces ≡ pieces_at place pkg
ArePiecesFrom place (Some o) pkg pieces =
    (so_far : List ℕ) × IsOpenFile o so_far pkg (pieces_at place pkg) pieces

-- these are the pieces that a reader in this state still has to read from the package: none after the
-- last block, and only the fault after a failed test
abbrev pub AreUnreadPieces : Due → BlockPlace → Option OpenFile → List ℕ → PiecesRead → Type 0
AreUnreadPieces Files place opened pkg pieces = ArePiecesFrom place opened pkg pieces
AreUnreadPieces Nothing place opened pkg pieces = pieces ≡ no_piece
AreUnreadPieces (Refused c) place opened pkg pieces = pieces ≡ refusal c

-- these are the pieces that a reader still has to read from a package of these bytes
abbrev pub IsReading : PieceReader → List ℕ → PiecesRead → Type 0
IsReading reader pkg pieces = AreUnreadPieces reader.due reader.place reader.opened pkg pieces

-- ---- the results

-- the result of a call for the next piece, if the pieces `before` were to be read. It is the first of
-- them, with `bytes`, or None if no piece was left. An error is the first failed test, which each later
-- call returns again. `AreUnreadBytes` holds of the pieces that are then still to be read
abbrev pub ReturnsNextPiece : (PiecesRead → Type 0) → PiecesRead → List ℕ
    → Result (Option Part) PieceFault → Type 0
ReturnsNextPiece AreUnreadBytes before bytes (Ok (Some part)) =
    (after : PiecesRead) × (before ≡ piece part bytes after) × AreUnreadBytes after
ReturnsNextPiece AreUnreadBytes before bytes (Ok None) = (before ≡ no_piece) × AreUnreadBytes no_piece
ReturnsNextPiece AreUnreadBytes before bytes (Err (Bad c)) = (before ≡ refusal c)
    × AreUnreadBytes (refusal c)
ReturnsNextPiece AreUnreadBytes before bytes (Err Disk) = Unit {0}

-- the piece is one of the first expected file (`before`). This file stays expected (`after`) until its
-- last piece was read
pub record IsOfFirstExpected (before : List ExpectedFile) (part : Part)
    (after : List ExpectedFile) : Type 0 where
  -- the first expected file
  pub first : ExpectedFile
  -- the other expected files
  pub others : List ExpectedFile
  -- these were expected before
  pub due : before ≡ first ∷ others
  -- the piece is a part of the first one
  pub of_first : part ≡ part_of first part.last
  -- the first one is still expected unless this was its last piece
  pub left : after ≡ (if part.last then others else first ∷ others)

-- the files that are expected `before` and `after` a call for the next piece. A piece is one of the first
-- expected file; without a piece no file was expected
abbrev pub IsReturnedInOrder : List ExpectedFile → Option Part → List ExpectedFile → Type 0
IsReturnedInOrder before None after = before ≡ []
IsReturnedInOrder before (Some part) after = IsOfFirstExpected before part after

-- after a piece a reader can continue, and the file is open unless the piece is its last one
pub record CanContinueAfter (part : Part) (old new : PieceReader) : Type 0 where
  -- the reader could continue before
  pub before : CanContinue old
  -- the reader can continue after the piece
  pub after : CanContinue new
  -- no file is open exactly after a last piece
  pub open_file : is_none new.opened ≡ part.last

-- a failed test is remembered by the reader of a package
abbrev pub RemembersFault : PieceFault → PieceReader → Type 0
RemembersFault (Bad c) reader = reader.due ≡ Refused c
RemembersFault Disk reader = Unit {0}

-- ---- the place of a file

-- the offset at which the file of the last piece begins
abbrev pub start_of_file : PieceReader → ℕ
start_of_file reader = reader.start

-- how many bytes were returned of the open file, which begins at `start`; 0 if none is open
abbrev pub returned_len_from : ℕ → Option OpenFile → ℕ
returned_len_from start None = 0
returned_len_from start (Some o) = o.at - start

-- how many bytes of the open file a reader has returned
abbrev pub returned_len : PieceReader → ℕ
returned_len reader = returned_len_from reader.start reader.opened

-- the bytes of the returned piece are in the package after those of its file that were returned before;
-- without a piece nothing is stated
abbrev pub HasPieceAt : PieceReader → List ℕ → List ℕ → Option Part → PieceReader → Type 0
HasPieceAt old pkg bytes None new = Unit {0}
HasPieceAt old pkg bytes (Some part) new = HasBytesAtOffset pkg (start_of_file new + returned_len old) bytes

-- a piece of this length was returned of the open file, whose offset is unchanged; after the last piece
-- none is open, and 0 bytes of it count as returned
pub record KeepsFileStart (part : Part) (len : ℕ) (old new : PieceReader) : Type 0 where
  -- if a file was open, its offset is unchanged
  pub same : IfSome old.opened (λ o. start_of_file new ≡ start_of_file old)
  -- the bytes returned of the open file grow by the piece; 0 after the last piece
  pub handed : returned_len new ≡ (if part.last then 0 else returned_len old + len)

-- ---- inside

-- the walk before and after the search for the next file: it passes the file that was found, and no
-- other. If none was found, no file was expected
abbrev pub FindsNextFile : Walk → Option OpenFile → Walk → Type 0
FindsNextFile before None after = files_left_in_walk before ≡ []
FindsNextFile before (Some found) after =
    files_left_in_walk before ≡ expected_of found.file.wanted ∷ files_left_in_walk after

-- the result of the search for the next file in this package. A file: the pieces that were to be read are
-- those of this file, and then those of the blocks from the new place on. None: no piece is left. Or the
-- first failed test
abbrev pub IsFileFound : BlockPlace → List ℕ → Result (Option OpenFile) PieceFault → BlockPlace
    → Type 0
IsFileFound before pkg (Ok None) after = pieces_at before pkg ≡ no_piece
IsFileFound before pkg (Ok (Some o)) after =
    IsOpenFile o [] pkg (pieces_at after pkg) (pieces_at before pkg)
IsFileFound before pkg (Err (Bad c)) after = pieces_at before pkg ≡ refusal c
IsFileFound before pkg (Err Disk) after = Unit {0}

-- the result of the search for the file of the next piece, if the pieces `before` were to be read. It is
-- the file that is already open, or else the next one; None if no piece is left; or the first failed test
abbrev pub IsFileOpened : PieceReader → List ℕ → PiecesRead
    → Result (Option OpenFile) PieceFault → PieceReader → Type 0
IsFileOpened old pkg before (Ok None) new = before ≡ no_piece
IsFileOpened old pkg before (Ok (Some o)) new =
    (so_far : List ℕ) × IsOpenFile o so_far pkg (pieces_at new.place pkg) before
IsFileOpened old pkg before (Err (Bad c)) new = before ≡ refusal c
IsFileOpened old pkg before (Err Disk) new = Unit {0}

-- the open file `o` begins at the offset `start`: its next byte follows the bytes that the reader has
-- returned of it. If a file was already open, it began at the same offset
pub record IsStartOf (old : PieceReader) (o : OpenFile) (start : ℕ) : Type 0 where
  -- the next byte follows the bytes that were returned
  pub located : o.at ≡ start + returned_len old
  -- if a file was already open, it began at the same offset
  pub same : IfSome old.opened (λ o. start ≡ start_of_file old)

-- the result of reading the next piece, as in *ReturnsNextPiece*. After the end or a failed test, nothing
-- is stated of the pieces that later calls return
abbrev pub IsPieceRead : PieceReader → List ℕ → PiecesRead → List ℕ
    → Result (Option Part) PieceFault → Type 0
IsPieceRead new pkg before bytes (Ok (Some part)) = (after : PiecesRead)
    × (before ≡ piece part bytes after) × ArePiecesFrom new.place new.opened pkg after
IsPieceRead new pkg before bytes (Ok None) = before ≡ no_piece
IsPieceRead new pkg before bytes (Err (Bad c)) = before ≡ refusal c
IsPieceRead new pkg before bytes (Err Disk) = Unit {0}

-- the files that were expected before a file was opened (`before`): this file, and then those that the
-- walk has left. None if no file was opened
abbrev pub OpensFirstOrNoneExpected : List ExpectedFile → Option OpenFile → BlockPlace → Type 0
OpensFirstOrNoneExpected before None place = before ≡ []
OpensFirstOrNoneExpected before (Some o) place =
    before ≡ expected_of o.file.wanted ∷ files_left_in_walk place.walk
