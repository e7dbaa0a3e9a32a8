-- The progress of a file whose bytes are taken in pieces. The rules are in `docs/formats.md`, "The other
-- blocks", point 2 of the last list (the pieces). Serves the contracts of `FileCheck` and `open_file`.
use Rattle.std.specs.Prelude.{◌≡◌, ℕ, ◌-◌, min, true, false, List, [], ◌++◌, length, Option, Some, None, Result, Ok, Err}
use Rattle.base_core.specs.declared.cause.Cause.{Cause}
use Rattle.pkg_core.specs.Contents.{contents_from_block_payload, fault_if_digest_is_not_of_bytes}
use Rattle.pkg_core.specs.Opened.{expected_of}
use Rattle.pkg_core.specs.Hashing.{HasHashedMessage}
use Rattle.pkg_core.specs.Pieces.{PiecesRead, piece, refusal, part_of, pieces_of_one_file, piece_count_before_last}
use Rattle.pkg_core.specs.declared.file.FileCheck.{FileCheck}
use Rattle.pkg_core.specs.declared.file.Part.{Part}
use Rattle.pkg_core.specs.declared.file.TheConstants.{PIECE_LEN}

-- how many bytes of a file are still to be taken
abbrev pub file_bytes_left : FileCheck → ℕ
file_bytes_left f = f.wanted.size - f.done

-- how many bytes the next piece of a file has
abbrev pub next_piece_len : FileCheck → ℕ
next_piece_len f = min (file_bytes_left f) PIECE_LEN

-- exactly these bytes of a file (`so_far`) were taken
pub record HasTaken (f : FileCheck) (so_far : List ℕ) : Type 0 where
  -- the hasher has taken these bytes
  pub hashed : HasHashedMessage f.hasher f.wanted.hash.now so_far
  -- as many bytes are counted as taken
  pub long : length so_far ≡ f.done

-- exactly `bytes` were taken of a file with the digest `hash`: if no check is left (None), all bytes of
-- the file, and they have the digest
abbrev pub HasTakenOrPassedDigest : List ℕ → List ℕ → Option FileCheck → Type 0
HasTakenOrPassedDigest hash bytes None = fault_if_digest_is_not_of_bytes hash bytes ≡ None
HasTakenOrPassedDigest hash bytes (Some f) = HasTaken f bytes

-- the pieces of the rest of a file (`left`), after the bytes `so_far` that were taken before, and then
-- the further pieces, of other files
abbrev pub pieces_in : FileCheck → List ℕ → List ℕ → PiecesRead → PiecesRead
pieces_in f so_far left further =
    pieces_of_one_file (piece_count_before_last (length left)) (expected_of f.wanted)
    (fault_if_digest_is_not_of_bytes f.wanted.hash.now (so_far ++ left)) left further

-- the result of taking `bytes`, with `left` as the rest of the file. `bytes` are the next piece, followed
-- by the pieces of the rest or, after the last piece, by the further ones. An error is that the digest
-- differs
abbrev pub IsTakeResult : FileCheck → List ℕ → List ℕ → List ℕ → PiecesRead
    → Result (Part × Option FileCheck) Cause → Type 0
IsTakeResult f so_far bytes left further (Ok (part, Some g)) =
    (pieces_in f so_far (bytes ++ left) further
    ≡ piece part bytes (pieces_in g (so_far ++ bytes) left further))
    × HasTaken g (so_far ++ bytes) × (g.wanted ≡ f.wanted)
IsTakeResult f so_far bytes left further (Ok (part, None)) =
    pieces_in f so_far (bytes ++ left) further ≡ piece part bytes further
IsTakeResult f so_far bytes left further (Err c) =
    pieces_in f so_far (bytes ++ left) further ≡ refusal c

-- the returned part is of this file. If it is not the last one, the check of the rest of the same file is
-- returned with it
abbrev pub IsPartOfCheckedFile : FileCheck → Part × Option FileCheck → Type 0
IsPartOfCheckedFile f (part, Some g) =
    (part ≡ part_of (expected_of f.wanted) false) × (g.wanted ≡ f.wanted)
IsPartOfCheckedFile f (part, None) = part ≡ part_of (expected_of f.wanted) true

-- the result of opening the file of a block of contents with this payload. `before` are the pieces from
-- this block on, and `further` those after it. The check of a file of which no bytes were taken yet: the
-- pieces are those of its bytes, and then the further ones. Or the first failed test
abbrev pub IsOpenResult : PiecesRead → List ℕ → PiecesRead → Result FileCheck Cause → Type 0
IsOpenResult before payload further (Ok f) =
    (before ≡ pieces_in f [] (contents_from_block_payload payload) further) × HasTaken f []
    × (length (contents_from_block_payload payload) ≡ f.wanted.size)
IsOpenResult before payload further (Err c) = before ≡ refusal c
