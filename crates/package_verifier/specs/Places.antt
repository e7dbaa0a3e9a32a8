-- Where the contents of a package's files begin, and the result of its tests. The rules are in
-- `docs/formats.md`, "The other blocks": the contents of the files, in rising order of their positions.
use Rattle.std.specs.Prelude.{◌≡◌, ℕ, ◌<◌, ◌==◌, ◌&&◌, ◌||◌, ◌⊎◌, nat_lt, Bool, List, [], ◌∷◌, Option, Some, None, option_map}
use Rattle.std.specs.List.{find}
use Rattle.package_reader.specs.adb_schema.Soundness.{payload_fault}
use Rattle.adb_view.specs.declared.tables.Which.TheVariants.{Package}
use Rattle.package_reader.specs.pkg_core.declared.file.Part.{Part}
use Rattle.package_reader.specs.pkg_core.Contents.{Contents, FilesRead, contents_in, fault_of_files_read}
use Rattle.package_reader.specs.pkg_core.Whole.{files_read_from_package, package_fault}
use Rattle.package_reader.specs.pkg_core.Front.{front_payload}
use Rattle.package_reader.specs.pkg_core.Seen.{HasBytesAtOffset}
use Rattle.package_reader.specs.pkg_core.declared.front.Front.{Front}
use Rattle.package_verifier.specs.declared.files.FilesTest.{FilesTest}
use Rattle.package_verifier.specs.declared.files.FilesTest.TheVariants.{Bad, Sound}
use Rattle.package_verifier.specs.declared.places.FilePlace.{FilePlace}

-- ---- places in the bytes of a package

-- the contents are those of the file with the positions of this place, and begin at its offset in a
-- package of these bytes
pub record IsAtPlace (pkg : List ℕ) (place : FilePlace) (contents : Contents) : Type 0 where
  -- the position of the folder
  pub folder : place.folder ≡ contents.folder
  -- the position of the file in the folder
  pub file : place.file ≡ contents.file
  -- the bytes are in the package at the offset of the place
  pub located : HasBytesAtOffset pkg place.at contents.bytes

-- there is a place for each file with contents, in order, and no other
abbrev pub AreAtPlaces : List ℕ → List FilePlace → List Contents → Type 0
AreAtPlaces pkg [] [] = Unit {0}
AreAtPlaces pkg [] (contents ∷ others) = ⊥
AreAtPlaces pkg (place ∷ places) [] = ⊥
AreAtPlaces pkg (place ∷ places) (contents ∷ others) =
    IsAtPlace pkg place contents × AreAtPlaces pkg places others

-- ---- the result of the tests

-- the result of the tests of the files of a package: no test fails, and each file with contents has them
-- at its place. Or the first failed test
abbrev pub AreFilesTested : FilesRead → List ℕ → FilesTest → Type 0
AreFilesTested files pkg (Sound places) =
    (fault_of_files_read files ≡ None) × AreAtPlaces pkg places.items (contents_in files)
AreFilesTested files pkg (Bad c) = fault_of_files_read files ≡ Some c

-- the result of all tests of a package: no test fails, and each file with contents has them at its place.
-- Or the first failed test
abbrev pub IsWholeTested : List ℕ → FilesTest → Type 0
IsWholeTested pkg (Sound places) =
    (package_fault pkg ≡ None) × AreAtPlaces pkg places.items (contents_in (files_read_from_package pkg))
IsWholeTested pkg (Bad c) = package_fault pkg ≡ Some c

-- if no test failed, no test of the values in the payload of the front fails
abbrev pub HasSoundPayload : Front → FilesTest → Type 0
HasSoundPayload front (Sound places) = payload_fault Package (front_payload front) ≡ None
HasSoundPayload front (Bad c) = Unit {0}

-- ---- in the order of the files

-- the file with the first two positions (folder and file) precedes the file with the other two. Its
-- folder is earlier; or both are in one folder, and the file is earlier in it
abbrev pub IsBeforeFile : ℕ → ℕ → ℕ → ℕ → Type 0
IsBeforeFile folder file other_folder other_file =
    (folder < other_folder) ⊎ ((folder ≡ other_folder) × (file < other_file))

-- whether the file with the first two positions (folder and file) precedes the file with the other two.
-- Its folder is earlier; or both are in one folder, and the file is earlier in it
abbrev pub is_before_file : ℕ → ℕ → ℕ → ℕ → Bool
is_before_file folder file other_folder other_file =
    nat_lt folder other_folder || ((folder == other_folder) && nat_lt file other_file)

-- each of these places is that of a file after the file at the position `file` in the folder at the
-- position `folder`
abbrev pub ArePlacedAfter : ℕ → ℕ → List FilePlace → Type 0
ArePlacedAfter folder file [] = Unit {0}
ArePlacedAfter folder file (place ∷ places) =
    IsBeforeFile folder file place.folder place.file × ArePlacedAfter folder file places

-- each of these places is of a file after those of all places before it
abbrev pub AreInFileOrder : List FilePlace → Type 0
AreInFileOrder [] = Unit {0}
AreInFileOrder (place ∷ places) =
    ArePlacedAfter place.folder place.file places × AreInFileOrder places

-- whether a place is that of the file with these positions, which count from 1
abbrev pub is_place_of : ℕ → ℕ → FilePlace → Bool
is_place_of folder file place = (place.folder == folder) && (place.file == file)

-- the offset at which the contents begin of the file at the position `file` in the folder at the position
-- `folder`. None if its place is not among these
abbrev pub offset_of_file : ℕ → ℕ → List FilePlace → Option ℕ
offset_of_file folder file places =
    option_map (λ place. place.at) (find (is_place_of folder file) places)

-- the place of the file that this part belongs to, which begins at the offset `at`
abbrev pub place_of_part : Part → ℕ → FilePlace
place_of_part part at = record { folder = part.path; file = part.file; at = at }
