-- A package is tested whole by its front, by its values and by what follows them.
use Rattle.std.proofs.Common.{◌≡◌, ◌≢◌, ℕ, ◌+◌, ◌≤◌, ◌==◌, Bool, true, false, if◌then◌else◌, List, [], ◌∷◌, ◌++◌, length, Option, Some, None, option_map, Result, Ok, Err, refl, ap, sym, subst, ◌∙◌, arith}
use Rattle.std.specs.Prelude.{IfOk}
use Rattle.std.specs.Option.{option_or}
use Rattle.std.proofs.lemmas.Bool.{eqb-true}
use Rattle.std.proofs.lemmas.List.{length-append}
use Rattle.sha2.specs.Sha256.{sha256}
use Rattle.base_core.specs.Calls.{IfObservable}
use Rattle.base_core.specs.Tree.{TreeState, files_of}
use Rattle.base_core.specs.declared.cause.Cause.{Cause}
use Rattle.base_core.specs.declared.cause.Cause.TheVariants.{WrongSchema}
use Rattle.base_core.specs.declared.tree.TreeFault.{TreeFault}
use Rattle.adb_block.specs.Header.{schema_of_header}
use Rattle.adb_block.specs.Reading.{Reading, block_stream_from}
use Rattle.adb_block.specs.PositionBetweenBlocks.{first_block_position_of_schema_and_file}
use Rattle.adb_view.specs.Plain.{Plain}
use Rattle.adb_view.specs.declared.tables.Which.TheVariants.{Package}
use Rattle.package_reader.specs.adb_schema.Soundness.{blocks_fault, file_fault_by_header_schema_or_fault, payload_fault, payload_in, root_value_of_payload}
use Rattle.package_reader.specs.adb_schema.declared.read.TheConstants.{PACKAGE_WORD}
use Rattle.package_reader.specs.pkg_core.Contents.{FilesRead, contents_in, expected_files_of_package, fault_of_files_read, files_read_from_blocks}
use Rattle.package_reader.specs.pkg_core.Refusals.{IsFaultOf}
use Rattle.package_reader.specs.pkg_core.Whole.{fault_of_contents_blocks_by_root_table, container_fault, container_fault_after_header, files_after_first_block, files_after_header, files_read_from_package, package_fault, container_fault_of_table}
use Rattle.package_reader.specs.pkg_core.declared.pack.PackageFault.{PackageFault}
use Rattle.package_reader.specs.pkg_core.declared.pack.PackageFault.TheVariants as PackageFaults
use Rattle.package_reader.proofs.pkg_core.Steps.{package_steps, values_first}
use Rattle.package_reader.specs.pkg_core.Front.{IsFrontOf, IsFrontRead, position_after_front, front_end, front_fault, front_file_len, front_payload}
use Rattle.package_reader.specs.pkg_core.Seen.{HasBytesAtOffset, IsSeenIn}
use Rattle.package_reader.specs.pkg_core.declared.front.Front.{Front}
use Rattle.package_reader.specs.pkg_core.declared.front.FrontFault.{FrontFault}
use Rattle.package_reader.specs.pkg_core.declared.front.FrontFault.TheVariants.{Bad}
use Rattle.package_reader.proofs.pkg_core.SeenBytes.{file_with, has_front, has_rest, seen_then}
use Rattle.package_reader.proofs.pkg_core.WholeTests.{front_alike, same_payload, values_alike}
use Rattle.package_reader.proofs.BlockSeen.{nothing_seen}
use Rattle.package_verifier.specs.Places.{AreAtPlaces, AreFilesTested, IsWholeTested}
use Rattle.package_verifier.specs.Tested.{IsPackageReadResult, IsTestedOf}
use Rattle.package_verifier.specs.Tests.{IsPackageTestResult}
use Rattle.package_verifier.specs.declared.files.FilesTest.{FilesTest}
use Rattle.package_verifier.specs.declared.files.FilesTest.TheVariants as Tests
use Rattle.package_verifier.specs.declared.package.TestedPackage.{TestedPackage}
use Rattle.package_verifier.specs.declared.read.PackageRead.{PackageRead}
use Rattle.package_verifier.specs.declared.read.PackageRead.TheVariants as Reads
use Rattle.package_verifier.specs.declared.test.PackageTest.{PackageTest}
use Rattle.package_verifier.specs.declared.test.PackageTest.TheVariants as Says

-- ---- by the front

package_by_front : (pkg : List ℕ) (front : Front) → IsFrontOf PACKAGE_WORD pkg front → package_fault pkg ≡ option_or (payload_fault Package (front_payload front)) (fault_of_files_read (files_read_from_package pkg))
package_by_front pkg front is = package_steps pkg ∙ ap (λ (o : Option Cause). option_or o (fault_of_files_read (files_read_from_package pkg))) (values_alike pkg front is)

files_by_front : (pkg : List ℕ) (front : Front) → IsFrontOf PACKAGE_WORD pkg front → files_read_from_package pkg ≡ files_read_from_blocks (expected_files_of_package (root_value_of_payload Package (front_payload front))) (block_stream_from (position_after_front front pkg))
unfolding files_read_from_package
files_by_front pkg front is = ap (files_after_header pkg) is.header ∙ ap files_after_first_block is.blocks

whole_by_files : (pkg : List ℕ) (front : Front) (files : FilesRead) (test : FilesTest) → IsFrontOf PACKAGE_WORD pkg front → payload_fault Package (front_payload front) ≡ None → files_read_from_package pkg ≡ files → AreFilesTested files pkg test → IsWholeTested pkg test
whole_by_files pkg front files (Tests.Sound places) is sound same tested = (
  package_by_front pkg front is ∙ (ap (λ (o : Option Cause). option_or o (fault_of_files_read (files_read_from_package pkg))) sound ∙ (ap fault_of_files_read same ∙ tested.0)),
  subst (λ (f : FilesRead). AreAtPlaces pkg places.items (contents_in f)) (sym same) tested.1,
)
whole_by_files pkg front files (Tests.Bad c) is sound same tested =
    package_by_front pkg front is ∙ (ap (λ (o : Option Cause). option_or o (fault_of_files_read (files_read_from_package pkg))) sound ∙ (ap fault_of_files_read same ∙ tested))

-- the tests of each package with this front, by the bytes that were seen after it
abbrev pub IsWholeTold : List TreeState → List ℕ → Front → FilesTest → Type 0
IsWholeTold h name front test = (seen : List ℕ)
    × IsSeenIn h name (front_file_len front) (front_end front) seen
    × ((pkg : List ℕ) → IsFrontOf PACKAGE_WORD pkg front → HasBytesAtOffset pkg (front_end front) seen → IsWholeTested pkg test)

pub whole_by_values : (h : List TreeState) (name : List ℕ) (front : Front) (cause first : Cause) (why : PackageFault) → cause ≡ first → why ≡ PackageFaults.Bad first → front_end front ≤ front_file_len front → IsFaultOf why (payload_fault Package (front_payload front)) → IsWholeTold h name front (Tests.Bad cause)
whole_by_values h name front cause first why same is within of =
    let bad : payload_fault Package (front_payload front) ≡ Some first = subst (λ (f : PackageFault). IsFaultOf f (payload_fault Package (front_payload front))) is of in (
      [],
      nothing_seen h name (front_file_len front) (front_end front) within,
      λ pkg front_of has.
          package_by_front pkg front front_of
          ∙ ap (λ (o : Option Cause). option_or o (fault_of_files_read (files_read_from_package pkg))) (bad ∙ ap (λ (c : Cause). Some c) (sym same)),
    )

pub whole_by_contents : (h : List TreeState) (name : List ℕ) (front : Front) (value : Plain) (result : Result FilesTest TreeFault) → payload_fault Package (front_payload front) ≡ None → value ≡ root_value_of_payload Package (front_payload front)
    → IfOk result (λ test. (seen : List ℕ) × IsSeenIn h name (front_file_len front) (front_end front) seen × ((pkg : List ℕ) → length pkg ≡ front_file_len front → HasBytesAtOffset pkg (front_end front) seen → AreFilesTested (files_read_from_blocks (expected_files_of_package value) (block_stream_from (position_after_front front pkg))) pkg test))
    → IfOk result (IsWholeTold h name front)
whole_by_contents h name front value (Err fault) sound is told = tt
whole_by_contents h name front value (Ok test) sound is (seen, is_seen, each) = (
  seen,
  is_seen,
  λ pkg of has.
      whole_by_files pkg front _ test of sound (files_by_front pkg front of ∙ ap (λ (v : Plain). files_read_from_blocks (expected_files_of_package v) (block_stream_from (position_after_front front pkg))) (sym is)) (each pkg of.long has),
)

-- ---- of some file, the one under the name where the tree tells it

abbrev pub IsReadOfSome : List TreeState → List ℕ → PackageRead → Type 0
IsReadOfSome h name read = (found : Option (List ℕ)) × IfObservable h (λ v. found ≡ files_of v name) × IsPackageReadResult name found read

long_in : (found told : Option (List ℕ)) (front : Front) → found ≡ told → IsFrontRead PACKAGE_WORD found (Ok (Some front)) → Some (front_file_len front) ≡ option_map length told
long_in None told front same is = absurd is
long_in (Some file) told front same is = ap (λ (n : ℕ). Some n) (sym is.long) ∙ ap (option_map length) same

long_told : (h : List TreeState) (name : List ℕ) (front : Front) (found : Option (List ℕ)) → IfObservable h (λ v. found ≡ files_of v name) → IsFrontRead PACKAGE_WORD found (Ok (Some front)) → IfObservable h (λ v. Some (front_file_len front) ≡ option_map length (files_of v name))
long_told [] name front found told is = tt
long_told (v ∷ earlier) name front found told is = long_in found (files_of v name) front told is

pub read_whole : (h later : List TreeState) (name own : List ℕ) (front : Front) (test : FilesTest) (read : PackageRead) → own ≡ name → later ≡ h → (found : Option (List ℕ)) × IfObservable h (λ v. found ≡ files_of v name) × IsFrontRead PACKAGE_WORD found (Ok (Some front))
    → (seen : List ℕ) × IsSeenIn h name (front_file_len front) 0 seen × (front_end front ≡ length seen) × ((file : List ℕ) → length file ≡ front_file_len front → HasBytesAtOffset file 0 seen → IsFrontOf PACKAGE_WORD file front)
    → IsWholeTold later name front test → ((pkg : List ℕ) → IsFrontOf PACKAGE_WORD pkg front → IsWholeTested pkg test → IsPackageReadResult own (Some pkg) read) → IsReadOfSome h name read
read_whole h later name own front test read named same (found, told, is_read) (seen, is_seen, ends, each) (behind, is_behind, whole) reads =
    let here : IsSeenIn h name (front_file_len front) (front_end front) behind = subst (λ (g : List TreeState). IsSeenIn g name (front_file_len front) (front_end front) behind) same is_behind in
    let starts : front_end front ≡ 0 + length seen = omega (arith, ends) in
    let all = length-append seen behind in
    let room = here.within in
    let f = file_with h name (front_file_len front) (seen ++ behind) (long_told h name front found told is_read) (record {
      seen = seen_then h name (front_file_len front) 0 (front_end front) seen behind starts is_seen.seen here.seen;
      within = omega (arith, all, room, ends);
    }) in
    let is = each f.file f.long (has_front f.file 0 seen behind f.has) in
    let has = subst (λ (n : ℕ). HasBytesAtOffset f.file n behind) (sym starts) (has_rest f.file 0 seen behind f.has) in
    (Some f.file, f.told, subst (λ (n : List ℕ). IsPackageReadResult n (Some f.file) read) named (reads f.file is (whole f.file is has)))

refused_by : (h : List TreeState) (name : List ℕ) (cause : Cause) → (found : Option (List ℕ)) × IfObservable h (λ v. found ≡ files_of v name) × IsFrontRead PACKAGE_WORD found (Err (Bad cause)) → IsReadOfSome h name (Reads.Bad cause)
refused_by h name cause (None, told, bad) = absurd bad
refused_by h name cause (Some file, told, bad) = (Some file, told, values_first file cause (front_alike file cause bad))

-- no file is there
pub absent_read : (h : List TreeState) (name : List ℕ) → (found : Option (List ℕ)) × IfObservable h (λ v. found ≡ files_of v name) × IsFrontRead PACKAGE_WORD found (Ok None) → IsReadOfSome h name Reads.Absent
absent_read h name (None, told, is) = (None, told, tt)
absent_read h name (Some file, told, is) = absurd is

pub refused : (h : List TreeState) (name : List ℕ) (cause first : Cause) (why : FrontFault) → cause ≡ first → why ≡ Bad first → (found : Option (List ℕ)) × IfObservable h (λ v. found ≡ files_of v name) × IsFrontRead PACKAGE_WORD found (Err why) → IsReadOfSome h name (Reads.Bad cause)
refused h name cause first why same is front =
    refused_by h name cause
    (subst (λ (f : FrontFault). (found : Option (List ℕ)) × IfObservable h (λ v. found ≡ files_of v name) × IsFrontRead PACKAGE_WORD found (Err f)) (is ∙ ap (λ (c : Cause). Bad c) (sym same)) front)

-- ---- a package as a container

by_schema : (wanted : Bool) (schema : ℕ) (r : Reading) (fault : Option Cause) → ((found : ℕ) → fault ≢ Some (WrongSchema found)) → option_or (if wanted then None else Some (WrongSchema schema)) (blocks_fault (fault_of_contents_blocks_by_root_table Package) Package r) ≡ fault → wanted ≡ true
by_schema true schema r fault other is = refl
by_schema false schema r fault other is = absurd (other schema (sym is))

container_by_header : (file : List ℕ) (header : Result ℕ Cause) (fault : Option Cause) → ((found : ℕ) → fault ≢ Some (WrongSchema found)) → schema_of_header file ≡ header → file_fault_by_header_schema_or_fault (fault_of_contents_blocks_by_root_table Package) Package file header ≡ fault → container_fault_after_header file header ≡ fault
unfolding container_fault_of_table
container_by_header file (Err c) fault other is told = told
container_by_header file (Ok schema) fault other is told =
    let same : PACKAGE_WORD ≡ schema = eqb-true PACKAGE_WORD schema (by_schema (PACKAGE_WORD == schema) schema (block_stream_from (first_block_position_of_schema_and_file schema file)) fault other told) in
    ap (λ (n : ℕ). container_fault_after_header file (Ok n)) (sym same)
    ∙ (ap (file_fault_by_header_schema_or_fault (fault_of_contents_blocks_by_root_table Package) Package file) (is ∙ ap (λ (n : ℕ). Ok n) (sym same))
    ∙ subst (λ (n : ℕ). file_fault_by_header_schema_or_fault (fault_of_contents_blocks_by_root_table Package) Package file (Ok n) ≡ fault) (sym same) told)

pub as_container : (file : List ℕ) (fault : Option Cause) → ((found : ℕ) → fault ≢ Some (WrongSchema found)) → package_fault file ≡ fault → container_fault file ≡ fault
unfolding container_fault container_fault_of_table
as_container file fault other told = container_by_header file (schema_of_header file) fault other refl told

pub said_sound : (pkg : TestedPackage) (name : List ℕ) (found : Option (List ℕ)) → IsPackageReadResult name found (Reads.Sound pkg) → IsPackageTestResult found Says.Sound
said_sound pkg name None is = absurd is
said_sound pkg name (Some file) is = as_container file None (λ n e. (cc)) is.sound

pub said_by : (c : Cause) (test : PackageTest) (name : List ℕ) (found : Option (List ℕ)) → ((file : List ℕ) → package_fault file ≡ Some c → IsPackageTestResult (Some file) test) → IsPackageReadResult name found (Reads.Bad c) → IsPackageTestResult found test
said_by c test name None says is = absurd is
said_by c test name (Some file) says is = says file is

pub said_bad : (c : Cause) (file : List ℕ) → ((n : ℕ) → c ≢ WrongSchema n) → package_fault file ≡ Some c → container_fault file ≡ Some c
said_bad c file other is = as_container file (Some c) (λ n e. other n (let same : Some c ≡ Some (WrongSchema n) = e in (cc))) is

pub is_tested : (name pkg : List ℕ) (front : Front) (tested : TestedPackage) (test : FilesTest) → tested.name ≡ name → tested.front ≡ front → test ≡ Tests.Sound tested.places → IsFrontOf PACKAGE_WORD pkg front → IsWholeTested pkg test → IsTestedOf name pkg tested
is_tested name pkg front tested test named fronted is of whole =
    let payload : front_payload tested.front ≡ payload_in pkg = ap front_payload fronted ∙ sym (same_payload pkg front of) in
    let sound : IsWholeTested pkg (Tests.Sound tested.places) = subst (IsWholeTested pkg) is whole in
    record {
      named = named;
      sound = sound.0;
      value = ap (root_value_of_payload Package) payload;
      id = ap sha256 payload;
      long = ap front_file_len fronted ∙ sym of.long;
      payload = payload;
      places = sound.1;
    }
