-- The contents of a package that was read, and the result of a call for its next file. Names with
-- `opened_` concern a package in memory. The rules are in `docs/formats.md`, "The other blocks". Serves
-- the contracts of `Package` and `Walk`.
use Rattle.std.specs.Prelude.{◌≡◌, ℕ, ◌+◌, ◌==◌, ◌&&◌, Bool, List, [], ◌∷◌, ◌++◌, drop, Option, Some, None, Result, Ok, Err}
use Rattle.std.specs.List.{find}
use Rattle.base_core.specs.declared.cause.Cause.{Cause}
use Rattle.adb_block.specs.Reading.{block_stream_from}
use Rattle.adb_view.specs.Plain.{Plain}
use Rattle.adb_view.specs.Values.{entries_in}
use Rattle.adb_schema.specs.Checked.{checked_value}
use Rattle.adb_schema.specs.adb_fields.ListValue.{list_value}
use Rattle.adb_schema.specs.adb_fields.Repeated.{list_of, files_in}
use Rattle.pkg_core.specs.Contents.{ExpectedFile, Contents, FilesRead, no_more, refused, given, expected_files_of_folder, expected_files_of_folders, files_read_from_blocks, contents_of_expected, contents_block_fault_at_offset}
use Rattle.pkg_core.specs.declared.pack.Package.{Package}
use Rattle.pkg_core.specs.declared.walk.Walk.{Walk}
use Rattle.pkg_core.specs.declared.walk.Wanted.{Wanted}
use Rattle.pkg_core.specs.declared.walk.Rest.{Rest}
use Rattle.pkg_core.specs.declared.walk.FileContents.{FileContents}

-- the contents of a file that was returned
abbrev pub contents_view : FileContents → Contents
contents_view f = record { folder = f.path; file = f.file; bytes = f.bytes.now }

-- the result of a call for the next file; `before` are the files that were left before the call, and
-- `after` those left after it. It is the first file left; None if no file is left; or the first failed
-- test, which each later call returns again
abbrev pub IsNextFile : FilesRead → Result (Option FileContents) Cause → FilesRead → Type 0
IsNextFile before (Ok None) after = (before ≡ no_more) × (after ≡ no_more)
IsNextFile before (Ok (Some f)) after = before ≡ given (contents_view f) after
IsNextFile before (Err c) after = (before ≡ refused c) × (after ≡ refused c)

-- ---- the walk over the files

-- the wanted file, as contracts see it
abbrev pub expected_of : Wanted → ExpectedFile
expected_of w = record { folder = w.folder; file = w.file; size = w.size; hash = w.hash.now }

-- the files with contents that are left in some folders: the first of these folders has the position `i`,
-- and its first `j` files are already passed
abbrev pub files_left_from : ℕ → ℕ → List Plain → List ExpectedFile
files_left_from i j [] = []
files_left_from i j (folder ∷ folders) =
    expected_files_of_folder i (j + 1) (drop j (files_in folder))
    ++ expected_files_of_folders (i + 1) folders

-- the files with contents that a walk has still before it
abbrev pub files_left_in_walk : Walk → List ExpectedFile
files_left_in_walk walk =
    files_left_from (walk.folder + 1) walk.file
    (drop walk.folder (list_of (entries_in (list_value walk.folders))))

-- the walk returns the first of the files that were left (`before`), and the others are left then
-- (`after`). Or None, if no file was left
abbrev pub TakesFirstExpected : List ExpectedFile → Option Wanted → List ExpectedFile → Type 0
TakesFirstExpected before None after = (before ≡ []) × (after ≡ [])
TakesFirstExpected before (Some w) after = before ≡ expected_of w ∷ after

-- ---- one file

-- whether the expected file `e` is at the position `file` in the folder at the position `folder`
abbrev pub is_expected_at : ℕ → ℕ → ExpectedFile → Bool
is_expected_at folder file e = (e.folder == folder) && (e.file == file)

-- the file at the position `file` in the folder at the position `folder`, among these expected files;
-- None if it is not there
abbrev pub expected_file_at : ℕ → ℕ → List ExpectedFile → Option ExpectedFile
expected_file_at folder file es = find (is_expected_at folder file) es

-- ---- the blocks with it

-- the files that are still to be read from the blocks of a package, whether or not a test failed
-- before
abbrev pub files_left : Rest → FilesRead
files_left rest = files_read_from_blocks (files_left_in_walk rest.walk) (block_stream_from rest.blocks)

-- the files that are still to be read, unless a test failed before: then only the fault of this test
abbrev pub unless_refused : Option Cause → FilesRead → FilesRead
unless_refused None files = files
unless_refused (Some c) files = refused c

-- the result of reading the next file, as *IsNextFile*, without a promise after an error
abbrev pub ReadsNext : FilesRead → Result (Option FileContents) Cause → FilesRead → Type 0
ReadsNext before (Ok None) after = (before ≡ no_more) × (after ≡ no_more)
ReadsNext before (Ok (Some f)) after = before ≡ given (contents_view f) after
ReadsNext before (Err c) after = before ≡ refused c

-- `f` has the contents in the payload as those of the first expected file, and the other files stay
-- expected (`after`)
abbrev pub ReturnsContentsOfFirst : List ℕ → FileContents → List ExpectedFile → List ExpectedFile → Type 0
ReturnsContentsOfFirst payload f [] after = ⊥
ReturnsContentsOfFirst payload f (e ∷ es) after =
    (contents_view f ≡ contents_of_expected payload e) × (es ≡ after)

-- the result of the walk for the block of contents with this payload at the offset `at`. If no test
-- fails, it is the contents of the first file that was left (`before`), and the others are left
-- (`after`). Otherwise it is the first failed test
abbrev pub ReturnsNextContents : List ℕ → ℕ → List ExpectedFile → Result FileContents Cause
    → List ExpectedFile
    → Type 0
ReturnsNextContents payload at before (Ok f) after =
    (contents_block_fault_at_offset payload at before ≡ None)
    × ReturnsContentsOfFirst payload f before after
ReturnsNextContents payload at before (Err c) after =
    contents_block_fault_at_offset payload at before ≡ Some c

-- ---- a package

-- the plain value of a package
abbrev pub opened_value : Package → Plain
opened_value pkg = checked_value pkg.checked

-- the payload of the first block of a package, which has the package's values
abbrev pub opened_payload : Package → List ℕ
opened_payload pkg = pkg.payload.now

-- the files of a package that are still to be read
abbrev pub opened_files : Package → FilesRead
opened_files pkg = unless_refused pkg.refused (files_left pkg.rest)
