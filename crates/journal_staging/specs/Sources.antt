-- Which bytes the sources of writes denote: given bytes, the text of a link, or the contents of a file of a package.
-- The rules are in `docs/commands.md`, "What a change does
-- with files"; the digests in `docs/formats.md`, "The other blocks".
use Rattle.std.specs.Prelude.{◌≡◌, ℕ, List, [], ◌∷◌, Some, length, slice_get}
use Rattle.base_core.specs.Files.{Files}
use Rattle.file_guard.specs.AsListed.{link_file_bytes_of_target}
use Rattle.package_verifier.specs.Tested.{IsTestedOf, tested_value}
use Rattle.package_verifier.specs.package_reader.FileReading.{AreAsExpected}
use Rattle.file_guard.specs.pkg_core.Contents.{bytes_of_file, contents_in, expected_files_of_package}
use Rattle.file_guard.specs.pkg_core.Opened.{expected_file_at}
use Rattle.file_guard.specs.pkg_core.Whole.{files_read_from_package}
use Rattle.journal_staging.specs.declared.writes.PackagedFile.{PackagedFile}
use Rattle.journal_staging.specs.declared.writes.Source.{Source}
use Rattle.journal_staging.specs.declared.writes.Source.TheVariants.{Bytes, File, Link}
use Rattle.journal_staging.specs.declared.writes.StagedWrite.{StagedWrite}

-- ---- one source

-- among these files is the package of `f`, as it was tested, and its file at the positions of `f` has these bytes
pub record IsFileSource (files : Files) (f : PackagedFile) (bytes : List ℕ) : Type 0 where
  -- the name of the package's file
  pub name : List ℕ
  -- the bytes of the package's file
  pub pkg : List ℕ
  -- the files have the package under this name
  pub there : files name ≡ Some pkg
  -- the file with these bytes may be the one that was tested as the package of `f`
  pub tested : IsTestedOf name pkg f.package.now
  -- `bytes` are the contents of the package's file at the positions of folder and file in `f`
  pub is : bytes ≡ bytes_of_file f.folder f.file (contents_in (files_read_from_package pkg))

-- over these files the source denotes these bytes: its own, the text of its link, or those of a file of a package
abbrev pub DenotesBytes : Files → Source → List ℕ → Type 0
DenotesBytes files (Bytes own) bytes = bytes ≡ own.now
DenotesBytes files (Link target) bytes = bytes ≡ link_file_bytes_of_target target.now
DenotesBytes files (File f) bytes = IsFileSource files f bytes

-- the bytes have the size and the digest that the tested package of `f` lists for this file; they are empty if it
-- lists no contents for it
abbrev pub AreListedContentsOf : PackagedFile → List ℕ → Type 0
AreListedContentsOf f bytes =
    AreAsExpected (expected_file_at f.folder f.file (expected_files_of_package (tested_value
    f.package.now)))
    bytes

-- the bytes are not excluded as those of the source: they are its own bytes or the text of its link, or they have
-- the size and the digest that the package lists for the file
abbrev pub MayDenote : Source → List ℕ → Type 0
MayDenote (Bytes own) bytes = bytes ≡ own.now
MayDenote (Link target) bytes = bytes ≡ link_file_bytes_of_target target.now
MayDenote (File f) bytes = AreListedContentsOf f bytes

-- ---- those of several writes

-- over these files, the source of each write denotes the element of `contents` with the same index
pub record EachDenotes (files : Files) (writes : List StagedWrite) (contents : List (List ℕ)) :
    Type 0 where
  -- there are as many contents as writes
  pub same : length contents ≡ length writes
  -- the source of the write with the index i denotes the element of `contents` with the index i
  pub each : (i : ℕ) (w : StagedWrite) (bytes : List ℕ) → slice_get writes i ≡ Some w
      → slice_get contents i ≡ Some bytes → DenotesBytes files w.source bytes

-- there are as many elements of `contents` as writes, and the source of each write may denote the element with its
-- index
abbrev pub EachMayDenote : List StagedWrite → List (List ℕ) → Type 0
EachMayDenote [] [] = Unit {0}
EachMayDenote [] (bytes ∷ others) = ⊥
EachMayDenote (w ∷ writes) [] = ⊥
EachMayDenote (w ∷ writes) (bytes ∷ others) =
    MayDenote w.source bytes × EachMayDenote writes others
