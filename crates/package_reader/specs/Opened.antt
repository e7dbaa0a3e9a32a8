-- A file of a package that is read in pieces, in terms of the package's bytes. The rules are in
-- `docs/formats.md`, "The other blocks", point 2 of the last list (the pieces). Serves the contracts of
-- `OpenFile` and `open_at`.
use Rattle.std.specs.Prelude.{◌≡◌, ℕ, ◌+◌, ◌-◌, nat_lt, if◌then◌else◌, true, false, List, [], ◌++◌, length, take, drop, Option, Some, None, Result, Ok, Err}
use Rattle.base_core.specs.declared.cause.Cause.{Cause}
use Rattle.base_core.specs.declared.cause.Cause.TheVariants.{DataOrder, DataSize}
use Rattle.pkg_core.specs.Contents.{ExpectedFile, fault_if_digest_is_not_of_bytes}
use Rattle.pkg_core.specs.Opened.{expected_of}
use Rattle.pkg_core.specs.Pieces.{PiecesRead, part_of, piece, refusal}
use Rattle.pkg_core.specs.Taking.{HasTaken, file_bytes_left, pieces_in}
use Rattle.pkg_core.specs.declared.file.Part.{Part}
use Rattle.package_reader.specs.declared.piece.PieceFault.{PieceFault}
use Rattle.package_reader.specs.declared.piece.PieceFault.TheVariants.{Bad, Disk}
use Rattle.package_reader.specs.declared.open.OpenFile.{OpenFile}

-- the bytes of an open file that are still to be read, in a package of these bytes
abbrev pub unread_bytes : OpenFile → List ℕ → List ℕ
unread_bytes o pkg = take (file_bytes_left o.file) (drop o.at pkg)

-- the state of an open file in the package of the bytes `pkg`. The bytes `so_far` of the file were taken.
-- The pieces that are still to be read are those of its unread bytes, and then the pieces `further`
pub record IsOpenFile (o : OpenFile) (so_far pkg : List ℕ)
    (further pieces : PiecesRead) : Type 0 where
  -- these bytes were taken
  pub taken : HasTaken o.file so_far
  -- the taken bytes and the unread bytes have the size of the file
  pub long : length (so_far ++ unread_bytes o pkg) ≡ o.file.wanted.size
  -- the pieces that are still to be read are those of the unread bytes, and then the further ones
  pub come : pieces ≡ pieces_in o.file so_far (unread_bytes o pkg) further

-- The bytes `left` are the unread ones of an open file in the package of the bytes `pkg`. Together with the bytes that
-- were returned before, they have the size and the digest of the file.
pub record AreLeftOf (o : OpenFile) (pkg left : List ℕ) : Type 0 where
  -- the bytes that were returned before
  pub so_far : List ℕ
  -- these bytes were taken
  pub taken : HasTaken o.file so_far
  -- together they have the size of the file
  pub long : length (so_far ++ left) ≡ o.file.wanted.size
  -- the bytes `left` are the unread ones
  pub come : left ≡ unread_bytes o pkg
  -- together they have the digest of the file
  pub good : fault_if_digest_is_not_of_bytes o.file.wanted.hash.now (so_far ++ left) ≡ None

-- `left` are the bytes of the open file that are still to be read from the package of the bytes `pkg`. Together with
-- the bytes that were returned before, they have the size and the digest of the file. If no file is open, `left` is
-- empty.
abbrev pub AreUnreadBytes : Option OpenFile → List ℕ → List ℕ → Type 0
AreUnreadBytes None pkg left = left ≡ []
AreUnreadBytes (Some o) pkg left = AreLeftOf o pkg left

-- the result of reading a piece of the open file, after which `bytes` are all bytes of the file so far.
-- If no rest is returned, they have the size and the digest of the file; if a rest is returned, it has
-- taken them. With an error they have the size, and another digest
abbrev pub AreTestedSoFar : OpenFile → List ℕ → Result (Part × Option OpenFile) PieceFault → Type 0
AreTestedSoFar o bytes (Ok (part, None)) =
    (length bytes ≡ o.file.wanted.size)
    × (fault_if_digest_is_not_of_bytes o.file.wanted.hash.now bytes ≡ None)
AreTestedSoFar o bytes (Ok (part, Some further)) =
    HasTaken further.file bytes × (further.file.wanted ≡ o.file.wanted)
AreTestedSoFar o bytes (Err (Bad c)) =
    (length bytes ≡ o.file.wanted.size)
    × (fault_if_digest_is_not_of_bytes o.file.wanted.hash.now bytes ≡ Some c)
AreTestedSoFar o bytes (Err Disk) = Unit {0}

-- the result is no I/O error of the tree
abbrev pub IsNotDiskResult : {A : Type 0} → Result A PieceFault → Type 0
IsNotDiskResult (Ok value) = Unit {0}
IsNotDiskResult (Err (Bad c)) = Unit {0}
IsNotDiskResult (Err Disk) = ⊥

-- the result of a call for the next piece of an open file; the pieces `before` were still to be read.
-- `bytes` are the first of them, followed by the pieces of the rest of the file. After its last piece the
-- pieces `further` follow. An error is that the digest differs
abbrev pub IsResultOfNextPiece : List ℕ → List ℕ → List ℕ → PiecesRead → PiecesRead
    → Result (Part × Option OpenFile) PieceFault → Type 0
IsResultOfNextPiece so_far pkg bytes further before (Ok (part, Some o)) = (after : PiecesRead)
    × (before ≡ piece part bytes after) × IsOpenFile o (so_far ++ bytes) pkg further after
IsResultOfNextPiece so_far pkg bytes further before (Ok (part, None)) =
    before ≡ piece part bytes further
IsResultOfNextPiece so_far pkg bytes further before (Err (Bad c)) = before ≡ refusal c
IsResultOfNextPiece so_far pkg bytes further before (Err Disk) = Unit {0}

-- the result is the part of a piece of this file that has `len` bytes. Unless the piece is the last one,
-- the rest of the file is returned too, and begins `len` bytes later
abbrev pub IsPieceOf : OpenFile → ℕ → Part × Option OpenFile → Type 0
IsPieceOf o len (part, Some further) =
    (part ≡ part_of (expected_of o.file.wanted) false)
    × (further.file.wanted ≡ o.file.wanted) × (further.at ≡ o.at + len)
IsPieceOf o len (part, None) = part ≡ part_of (expected_of o.file.wanted) true

-- the offset after the open file, or 0 if none is open
abbrev pub open_file_end : Option OpenFile → ℕ
open_file_end None = 0
open_file_end (Some o) = o.at + file_bytes_left o.file

-- why an expected file cannot be at the offset `at` of a package of `len` bytes. No offset is given,
-- which is reported with (0, 0) as the positions found; or fewer bytes are left than the size of the
-- file. None if it can be there, or if no file is expected
abbrev pub place_fault : Option ExpectedFile → Option ℕ → ℕ → Option Cause
place_fault None at len = None
place_fault (Some e) None len = Some (DataOrder (e.folder, e.file) (0, 0))
place_fault (Some e) (Some at) len =
    if nat_lt (len - at) e.size then Some (DataSize e.size (len - at)) else None
