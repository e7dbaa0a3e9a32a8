-- A single file of a package that is read in pieces. The rules are in `docs/formats.md`, "The other
-- blocks", point 2 of the last list (the pieces). Serves the contracts of `FilePieces`.
use Rattle.std.specs.Prelude.{◌≡◌, ◌<◌, ℕ, ◌+◌, ◌⊎◌, Bool, true, false, List, [], ◌++◌, length, Option, Some, None, option_map, Result, Ok, Err}
use Rattle.base_core.specs.declared.cause.Cause.{Cause}
use Rattle.pkg_core.specs.Contents.{ExpectedFile, fault_if_digest_is_not_of_bytes}
use Rattle.pkg_core.specs.Opened.{expected_of}
use Rattle.pkg_core.specs.Taking.{HasTaken, file_bytes_left}
use Rattle.package_reader.specs.Opened.{AreUnreadBytes}
use Rattle.package_reader.specs.declared.piece.PieceFault.{PieceFault}
use Rattle.package_reader.specs.declared.piece.PieceFault.TheVariants.{Bad, Disk}
use Rattle.package_reader.specs.declared.one_file.FilePieces.{FilePieces}
use Rattle.package_reader.specs.declared.open.OpenFile.{OpenFile}

-- ---- the fields of a reader of one file

-- the name of the package that a file is read from
abbrev pub package_name_of_file : FilePieces → List ℕ
package_name_of_file file = file.name.now

-- how many bytes the package has that a file is read from
abbrev pub package_len_of_file : FilePieces → ℕ
package_len_of_file file = file.len

-- how many bytes of a file are still to be read; none if no file is open
abbrev pub bytes_left_in : Option OpenFile → ℕ
bytes_left_in None = 0
bytes_left_in (Some o) = file_bytes_left o.file

-- how many bytes of a single file are still to be read
abbrev pub bytes_left_of : FilePieces → ℕ
bytes_left_of file = bytes_left_in file.opened

-- the positions, the size and the digest that the package lists for the file; None if it has no
-- contents
abbrev pub expected_file_of : FilePieces → Option ExpectedFile
expected_file_of file = option_map expected_of file.due

-- the fault of the test that failed in the reading of a file, if one did
abbrev pub remembered_fault : FilePieces → Option Cause
remembered_fault file = file.refused

-- ---- which bytes of the package are still to be read

-- no test of the file failed, and `left` are its bytes that are still to be read from a package of these
-- bytes
abbrev pub HasUnreadBytes : FilePieces → List ℕ → List ℕ → Type 0
HasUnreadBytes file pkg left = (file.refused ≡ None) × AreUnreadBytes file.opened pkg left

-- ---- the results

-- the result of a call for the next piece if the tree has the package. True: `bytes` are the next of the
-- bytes that were left (`left`), and the others are still to be read then (`AreUnreadBytesThen`). False:
-- no byte was left. No test fails
abbrev pub ReturnsNextBytes : (List ℕ → Type 0) → List ℕ → List ℕ → Result Bool PieceFault → Type 0
ReturnsNextBytes AreUnreadBytesThen left bytes (Ok true) =
    (rest : List ℕ) × (left ≡ bytes ++ rest) × AreUnreadBytesThen rest
ReturnsNextBytes AreUnreadBytesThen left bytes (Ok false) = (left ≡ []) × AreUnreadBytesThen []
ReturnsNextBytes AreUnreadBytesThen left bytes (Err (Bad c)) = ⊥
ReturnsNextBytes AreUnreadBytesThen left bytes (Err Disk) = Unit {0}

-- ---- the tests of the bytes, whatever the tree has

-- of a file without contents there are no bytes; of any other, the bytes have the expected size and digest
abbrev pub AreAsExpected : Option ExpectedFile → List ℕ → Type 0
AreAsExpected None bytes = bytes ≡ []
AreAsExpected (Some e) bytes =
    (length bytes ≡ e.size) × (fault_if_digest_is_not_of_bytes e.hash bytes ≡ None)

-- the bytes have the expected size, but another digest; `c` is the fault of the digest
abbrev pub HaveOtherDigest : Option ExpectedFile → List ℕ → Cause → Type 0
HaveOtherDigest None bytes c = ⊥
HaveOtherDigest (Some e) bytes c =
    (length bytes ≡ e.size) × (fault_if_digest_is_not_of_bytes e.hash bytes ≡ Some c)

-- exactly these bytes were returned by a reader in this state. If the file is open, its check has taken
-- them. Otherwise they are the whole file, and have the expected size and digest. After a failed test
-- nothing is stated
abbrev pub HaveBeenReturnedInState : Option Cause → Option OpenFile → Option ExpectedFile → List ℕ → Type 0
HaveBeenReturnedInState (Some c) opened due bytes = Unit {0}
HaveBeenReturnedInState None None due bytes = AreAsExpected due bytes
HaveBeenReturnedInState None (Some o) due bytes = HasTaken o.file bytes

-- exactly these bytes of the file were returned so far
abbrev pub HaveBeenReturned : FilePieces → List ℕ → Type 0
HaveBeenReturned file bytes =
    HaveBeenReturnedInState (remembered_fault file) file.opened (expected_file_of file)
    bytes

-- The result of a call after the bytes `so_far` were returned; `bytes` is the piece. True: the piece was
-- returned after them. False: they are the whole file, and have the expected size and digest. After both
-- no test has failed. With an error, `so_far` and the piece have the expected size and another digest; or
-- a test had failed before.
abbrev pub IsTestedReturn : FilePieces → List ℕ → List ℕ → Result Bool PieceFault → FilePieces → Type 0
IsTestedReturn old so_far bytes (Ok true) new =
    (remembered_fault new ≡ None) × HaveBeenReturned new (so_far ++ bytes)
IsTestedReturn old so_far bytes (Ok false) new =
    (remembered_fault new ≡ None) × AreAsExpected (expected_file_of old) so_far
    × HaveBeenReturned new so_far
IsTestedReturn old so_far bytes (Err (Bad c)) new =
    (remembered_fault old ≡ Some c) ⊎ HaveOtherDigest (expected_file_of old) (so_far ++ bytes) c
IsTestedReturn old so_far bytes (Err Disk) new = Unit {0}

-- if a piece was returned, it has `len` bytes, at least one, and that many fewer are left to be read; if
-- none was, no byte was left
abbrev pub HasFewerLeft : FilePieces → ℕ → FilePieces → Bool → Type 0
HasFewerLeft old len new true =
    (0 < len) × (bytes_left_of old ≡ len + bytes_left_of new)
HasFewerLeft old len new false = bytes_left_of old ≡ 0

-- the reader of a file remembers a failed test as its fault
abbrev pub RemembersFileFault : PieceFault → FilePieces → Type 0
RemembersFileFault (Bad c) file = file.refused ≡ Some c
RemembersFileFault Disk file = Unit {0}
