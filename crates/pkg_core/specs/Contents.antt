-- Which files of a package have contents, and how the blocks after its values represent them. The rules
-- are in `docs/formats.md`, "The other blocks", the second paragraph; tables 3 to 5 of "Schemas" have
-- the fields.
use Rattle.std.specs.Prelude.{ℕ, ◌+◌, ◌==◌, nat_lt, Bool, bytes_eq, not, ◌&&◌, if◌then◌else◌, List, [], ◌∷◌, ◌++◌, length, drop, Option, Some, None}
use Rattle.std.specs.List.{find}
use Rattle.sha1.specs.Sha1.{sha1}
use Rattle.sha2.specs.Sha256.{sha256}
use Rattle.sha2.specs.Sha512.{sha512}
use Rattle.base_core.specs.declared.cause.Cause.{Cause}
use Rattle.base_core.specs.declared.cause.Cause.TheVariants.{Truncated, DataOrder, DataSize, HashDiffers}
use Rattle.base_core.specs.declared.cause.Digest.{Digest}
use Rattle.base_core.specs.declared.cause.Digest.TheVariants.{Sha1, Sha256, Sha512}
use Rattle.adb_block.specs.Reading.{Reading, done, fault, more}
use Rattle.adb_block.specs.declared.block.BlockKind.{BlockKind}
use Rattle.adb_block.specs.declared.block.BlockKind.TheVariants as Kinds
use Rattle.adb_view.specs.Plain.{Plain}
use Rattle.adb_view.specs.FieldIndexes.{FILE_HASHES_INDEX, FILE_SIZE_INDEX}
use Rattle.adb_view.specs.Values.{entry_at_index, int_in, text_in}
use Rattle.adb_schema.specs.adb_fields.Repeated.{folders_in, files_in}
use Rattle.adb_schema.specs.Soundness.{folder_and_file_positions_from_payload}
use Rattle.adb_schema.specs.Texts.{is_file_with_contents}

-- ---- the expected files

-- a file whose contents are expected: the positions of its folder and of the file in it, its size, and
-- its digest
pub record ExpectedFile : Type 0 where
  -- the position of its folder in the package, counted from 1
  pub folder : ℕ
  -- its position in the folder, counted from 1
  pub file : ℕ
  -- its size in bytes
  pub size : ℕ
  -- its digest
  pub hash : List ℕ

-- the expected file for the entry `file`, at the position `i` in the folder at the position `folder`. No
-- element if the file has no contents. A file has contents if it has no target, and its size is above 0
abbrev pub expected_file_if_with_contents : ℕ → ℕ → Plain → List ExpectedFile
expected_file_if_with_contents folder i file =
    if is_file_with_contents file
    then record {
      folder = folder;
      file = i;
      size = int_in (entry_at_index file FILE_SIZE_INDEX);
      hash = text_in (entry_at_index file FILE_HASHES_INDEX);
    } ∷ []
    else []

-- the files of the folder at the position `folder` that have contents; the first of the given files has
-- the position `i` in it
abbrev pub expected_files_of_folder : ℕ → ℕ → List Plain → List ExpectedFile
expected_files_of_folder folder i [] = []
expected_files_of_folder folder i (file ∷ files) =
    expected_file_if_with_contents folder i file ++ expected_files_of_folder folder (i + 1) files

-- the files of several folders that have contents; the first of the given folders has the position `i` in
-- the package
abbrev pub expected_files_of_folders : ℕ → List Plain → List ExpectedFile
expected_files_of_folders i [] = []
expected_files_of_folders i (folder ∷ folders) =
    expected_files_of_folder i 1 (files_in folder) ++ expected_files_of_folders (i + 1) folders

-- the files of a package that have contents, folder by folder; positions count from 1
abbrev pub expected_files_of_package : Plain → List ExpectedFile
expected_files_of_package pkg = expected_files_of_folders 1 (folders_in pkg)

-- ---- one block of contents

-- how many bytes the two positions have at the front of a block of contents: the position of the
-- folder and that of the file, four bytes each
abbrev pub POSITIONS_LEN : ℕ
POSITIONS_LEN = 8

-- the bytes of the file in the payload of a block of contents: those after its two positions
abbrev pub contents_from_block_payload : List ℕ → List ℕ
contents_from_block_payload payload = drop POSITIONS_LEN payload

-- the fault if the wanted digest is not the one that was computed (`found`); None if they are equal.
-- `as_digest` adds the name of the function
abbrev pub fault_if_wanted_and_found_digests_differ : (List ℕ → Digest) → List ℕ → List ℕ → Option Cause
fault_if_wanted_and_found_digests_differ as_digest wanted found =
    if bytes_eq wanted found then None else Some (HashDiffers (as_digest wanted) (as_digest found))

-- the fault if the bytes do not have the digest `hash`; None if they have it. The length of the digest
-- selects the function (FIPS 180-4): 20 bytes SHA-1, 32 SHA-256, 64 SHA-512. A digest of another length
-- is not compared
unfoldable pub fault_if_digest_is_not_of_bytes : List ℕ → List ℕ → Option Cause
fault_if_digest_is_not_of_bytes hash bytes =
    if length hash == 20 then fault_if_wanted_and_found_digests_differ Sha1 hash (sha1 bytes)
    else if length hash == 32 then fault_if_wanted_and_found_digests_differ Sha256 hash (sha256 bytes)
    else if length hash == 64 then fault_if_wanted_and_found_digests_differ Sha512 hash (sha512 bytes)
    else None

-- whether a block of contents with this payload has the positions of the expected file
abbrev pub has_positions_of : List ℕ → ExpectedFile → Bool
has_positions_of payload e =
    ((folder_and_file_positions_from_payload payload).0 == e.folder)
    && ((folder_and_file_positions_from_payload payload).1 == e.file)

-- the first failed test of a block of contents against an expected file: first the positions are
-- compared, then the size, then the digest
abbrev pub contents_fault_for_expected_file : List ℕ → ExpectedFile → Option Cause
contents_fault_for_expected_file payload e =
    if not (has_positions_of payload e) then Some
    (DataOrder (e.folder, e.file) (folder_and_file_positions_from_payload payload))
    else if not (length (contents_from_block_payload payload) == e.size)
    then Some (DataSize e.size (length (contents_from_block_payload payload)))
    else fault_if_digest_is_not_of_bytes e.hash (contents_from_block_payload payload)

-- the first failed test of a block of contents against the first of the files that are still expected. If
-- none is expected, the contents are out of order, and the reported expected positions are (0, 0)
abbrev pub next_contents_fault : List ℕ → List ExpectedFile → Option Cause
next_contents_fault payload [] = Some (DataOrder (0, 0) (folder_and_file_positions_from_payload payload))
next_contents_fault payload (e ∷ es) = contents_fault_for_expected_file payload e

-- the first failed test of the block of contents with this payload at the offset `at`. The payload must
-- have the eight bytes of the positions, and the contents must be those of the first expected file
abbrev pub contents_block_fault_at_offset : List ℕ → ℕ → List ExpectedFile → Option Cause
contents_block_fault_at_offset payload at es =
    if nat_lt (length payload) POSITIONS_LEN then Some (Truncated at) else next_contents_fault payload es

-- the fault at the end of the blocks if files are still expected: the positions of the first of them were
-- expected, and (0, 0) is reported as found
abbrev pub missing_contents_fault : List ExpectedFile → Option Cause
missing_contents_fault [] = None
missing_contents_fault (e ∷ es) = Some (DataOrder (e.folder, e.file) (0, 0))

-- ---- all blocks

-- the contents of a file, with the position of its folder in the package and its position in the
-- folder, both counted from 1
pub record Contents : Type 0 where
  -- the position of the file's folder in the package, counted from 1
  pub folder : ℕ
  -- the position of the file in the folder, counted from 1
  pub file : ℕ
  -- the bytes of the file
  pub bytes : List ℕ

-- the result of reading the files with contents in order: each file that is read (`given`), and then the
-- end (`no_more`) or the first failed test (`refused`)
pub data FilesRead : Type 0 where
  no_more : FilesRead
  refused : Cause → FilesRead
  given : Contents → FilesRead → FilesRead

-- these files, unless a test failed: then its fault is in place of them
abbrev pub files_or_fault_alone : Option Cause → FilesRead → FilesRead
files_or_fault_alone None files = files
files_or_fault_alone (Some c) files = refused c

-- the contents of the expected file `e`, from a block with this payload: the bytes after the two
-- positions
abbrev pub contents_of_expected : List ℕ → ExpectedFile → Contents
contents_of_expected payload e =
    record { folder = e.folder; file = e.file; bytes = contents_from_block_payload payload }

-- the contents of the first expected file, from a block with this payload. `further` gives the files that
-- are read after it, from the files that are then still expected
abbrev pub with_contents_of_next : List ℕ → (List ExpectedFile → FilesRead) → List ExpectedFile → FilesRead
with_contents_of_next payload further [] = no_more
with_contents_of_next payload further (e ∷ es) = given (contents_of_expected payload e) (further es)

-- the files that are read from a block with this kind, payload and offset `at` on. `further` gives those
-- of the blocks after it, from the files that are then still expected; a block without contents is
-- skipped
abbrev pub files_from_block_at_offset_if_contents :
    BlockKind → List ℕ → ℕ → (List ExpectedFile → FilesRead) → List ExpectedFile → FilesRead
files_from_block_at_offset_if_contents Kinds.Contents payload at further es =
    files_or_fault_alone (contents_block_fault_at_offset payload at es)
    (with_contents_of_next payload further es)
files_from_block_at_offset_if_contents kind payload at further es = further es

-- the files that are read from the blocks, each tested against the next expected file
unfoldable pub files_read_from_blocks : List ExpectedFile → Reading → FilesRead
files_read_from_blocks es done = files_or_fault_alone (missing_contents_fault es) no_more
files_read_from_blocks es (fault c) = refused c
files_read_from_blocks es (more b at r) =
    files_from_block_at_offset_if_contents b.kind b.payload at (λ left. files_read_from_blocks left r) es

-- the fault that ended the reading, if one did
abbrev pub fault_of_files_read : FilesRead → Option Cause
fault_of_files_read no_more = None
fault_of_files_read (refused c) = Some c
fault_of_files_read (given contents files) = fault_of_files_read files

-- the contents that were read, up to the end or to the fault
abbrev pub contents_in : FilesRead → List Contents
contents_in no_more = []
contents_in (refused c) = []
contents_in (given contents files) = contents ∷ contents_in files

-- the first failed test of the blocks after a package's values, block by block
abbrev pub contents_fault : List ExpectedFile → Reading → Option Cause
contents_fault es r = fault_of_files_read (files_read_from_blocks es r)

-- ---- the bytes of one file

-- whether these contents are those of the file at the position `file` in the folder at the position
-- `folder`
abbrev pub is_contents_of_file : ℕ → ℕ → Contents → Bool
is_contents_of_file folder file contents = (contents.folder == folder) && (contents.file == file)

-- the bytes of the contents; no bytes if there are no contents
abbrev pub bytes_or_none : Option Contents → List ℕ
bytes_or_none None = []
bytes_or_none (Some contents) = contents.bytes

-- the bytes of the file at the position `file` in the folder at the position `folder`, among the contents
-- of a package. There are none if no contents are those of this file
abbrev pub bytes_of_file : ℕ → ℕ → List Contents → List ℕ
bytes_of_file folder file contents = bytes_or_none (find (is_contents_of_file folder file) contents)
