-- The contents of a package's files in pieces, or the first failed test. The rules are in
-- `docs/formats.md`, "The other blocks", point 2 of the last list; the tests in the first list.
use Rattle.std.specs.Prelude.{ℕ, zero, suc, ◌-◌, ◌/◌, ◌==◌, ◌++◌, nat_lt, Bool, true, false, not, if◌then◌else◌, List, [], ◌∷◌, length, take, drop, Option, Some, None}
use Rattle.base_core.specs.declared.cause.Cause.{Cause}
use Rattle.base_core.specs.declared.cause.Cause.TheVariants.{Truncated, DataOrder, DataSize}
use Rattle.adb_block.specs.Reading.{Reading, done, fault, more}
use Rattle.adb_block.specs.declared.block.BlockKind.{BlockKind}
use Rattle.adb_block.specs.declared.block.BlockKind.TheVariants as Kinds
use Rattle.adb_schema.specs.Soundness.{folder_and_file_positions_from_payload}
use Rattle.pkg_core.specs.Contents.{ExpectedFile, FilesRead, POSITIONS_LEN, no_more, refused, given, contents_from_block_payload, has_positions_of, fault_if_digest_is_not_of_bytes, missing_contents_fault}
use Rattle.pkg_core.specs.declared.file.Part.{Part}
use Rattle.pkg_core.specs.declared.file.TheConstants.{PIECE_LEN}

-- pieces in order, each with the file that it is a part of, up to the end or to the first failed test
pub data PiecesRead : Type 0 where
  no_piece : PiecesRead
  refusal : Cause → PiecesRead
  piece : Part → List ℕ → PiecesRead → PiecesRead

-- ---- one file

-- the part that a piece is: of this expected file, and whether it is the file's last piece
abbrev pub part_of : ExpectedFile → Bool → Part
part_of e last = record { path = e.folder; file = e.file; last = last }

-- the last piece of a file, and then the further pieces. If the digest of all bytes of the file is wrong
-- (`Some c`), this fault is in place of the last piece and of all further ones
abbrev pub last_piece : ExpectedFile → Option Cause → List ℕ → PiecesRead → PiecesRead
last_piece e None bytes further = piece (part_of e true) bytes further
last_piece e (Some c) bytes further = refusal c

-- the pieces of the bytes of the file `e`: this many pieces of the full length, then the last one, and
-- then the further pieces, of other files. `digest` is the fault of the file's digest, if it is wrong
abbrev pub pieces_of_one_file : ℕ → ExpectedFile → Option Cause → List ℕ → PiecesRead → PiecesRead
pieces_of_one_file zero e digest bytes further = last_piece e digest bytes further
pieces_of_one_file (suc n) e digest bytes further =
    piece (part_of e false) (take PIECE_LEN bytes)
    (pieces_of_one_file n e digest (drop PIECE_LEN bytes) further)

-- how many pieces of a file of this length precede its last piece, which is not empty, and may be
-- a whole piece too
abbrev pub piece_count_before_last : ℕ → ℕ
piece_count_before_last len = (len - 1) / PIECE_LEN

-- the pieces of all bytes of a file, and then further ones
abbrev pub pieces_of_bytes : ExpectedFile → List ℕ → PiecesRead → PiecesRead
pieces_of_bytes e bytes further =
    pieces_of_one_file (piece_count_before_last (length bytes)) e
    (fault_if_digest_is_not_of_bytes e.hash bytes) bytes further

-- ---- one block

-- the first failed test of a block of contents before its first piece: first the positions are
-- compared, then the size
abbrev pub position_or_size_fault : List ℕ → ExpectedFile → Option Cause
position_or_size_fault payload e =
    if not (has_positions_of payload e) then Some
    (DataOrder (e.folder, e.file) (folder_and_file_positions_from_payload payload))
    else if not (length (contents_from_block_payload payload) == e.size)
    then Some (DataSize e.size (length (contents_from_block_payload payload)))
    else None

-- the pieces, unless a test failed: then its fault is in place of them
abbrev pub pieces_or_fault_alone : Option Cause → PiecesRead → PiecesRead
pieces_or_fault_alone None pieces = pieces
pieces_or_fault_alone (Some c) pieces = refusal c

-- the pieces of a payload of contents, tested against the first expected file, and then the further
-- pieces. If no file is expected, the contents are out of order, and the reported expected positions are
-- (0, 0)
abbrev pub pieces_of_payload : List ℕ → (List ExpectedFile → PiecesRead) → List ExpectedFile → PiecesRead
pieces_of_payload payload further [] =
    refusal (DataOrder (0, 0) (folder_and_file_positions_from_payload payload))
pieces_of_payload payload further (e ∷ es) =
    pieces_or_fault_alone (position_or_size_fault payload e)
    (pieces_of_bytes e (contents_from_block_payload payload) (further es))

-- the pieces from a block with this kind, payload and offset `at` on. `further` gives those of the blocks
-- after it, from the files that are then still expected. A block without contents is skipped; a block of
-- contents must have the eight bytes of the positions
abbrev pub pieces_at_block : BlockKind → List ℕ → ℕ → (List ExpectedFile → PiecesRead) → List ExpectedFile
    → PiecesRead
pieces_at_block Kinds.Contents payload at further es =
    if nat_lt (length payload) POSITIONS_LEN then refusal (Truncated at)
    else pieces_of_payload payload further es
pieces_at_block kind payload at further es = further es

-- ---- all of them

-- the pieces that are read from the blocks, which are tested against the expected files (`es`)
unfoldable pub pieces_read_from_blocks : List ExpectedFile → Reading → PiecesRead
pieces_read_from_blocks es done = pieces_or_fault_alone (missing_contents_fault es) no_piece
pieces_read_from_blocks es (fault c) = refusal c
pieces_read_from_blocks es (more b at r) =
    pieces_at_block b.kind b.payload at (λ left. pieces_read_from_blocks left r) es

-- the fault that ended the pieces, if one did
abbrev pub refusal_of_pieces : PiecesRead → Option Cause
refusal_of_pieces no_piece = None
refusal_of_pieces (refusal c) = Some c
refusal_of_pieces (piece part bytes pieces) = refusal_of_pieces pieces

-- ---- joined

-- the files from a piece on. `bytes` are the bytes of its file up to this piece. If the piece is the last
-- one, the file is complete; until then `further` continues with these bytes
abbrev pub files_from_piece : Part → List ℕ → (List ℕ → FilesRead) → FilesRead
files_from_piece part bytes further =
    if part.last
    then given (record { folder = part.path; file = part.file; bytes = bytes }) (further [])
    else further bytes

-- the files whose pieces these are; `so_far` are the bytes of the first file from earlier pieces
abbrev pub files_joined_from_pieces : PiecesRead → List ℕ → FilesRead
files_joined_from_pieces no_piece so_far = no_more
files_joined_from_pieces (refusal c) so_far = refused c
files_joined_from_pieces (piece part bytes pieces) so_far =
    files_from_piece part (so_far ++ bytes) (files_joined_from_pieces pieces)
