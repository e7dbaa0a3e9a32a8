-- The bytes of a single file, by if it begins.
use Rattle.std.proofs.Common.{◌≡◌, ℕ, ◌==◌, ◌&&◌, Bool, true, false, cond, List, [], ◌∷◌, length, Option, Some, None, option_map, Result, Ok, Err, refl, ap, sym, subst, ◌∙◌}
use Rattle.std.specs.List.{find}
use Rattle.base_core.specs.declared.cause.Cause.{Cause}
use Rattle.adb_block.specs.Header.{schema_of_header}
use Rattle.adb_block.specs.Reading.{Reading, done, fault, more, block_stream_from}
use Rattle.adb_block.specs.PositionBetweenBlocks.{first_block_position_of_schema_and_file}
use Rattle.adb_view.specs.Plain.{Plain}
use Rattle.base_core.proofs.Causes.{second_none}
use Rattle.adb_view.specs.declared.tables.Which.TheVariants.{Package}
use Rattle.package_reader.specs.adb_schema.Soundness.{blocks_fault, file_fault_by_header_schema_or_fault, first_block_payload, payload_by_header_schema_or_fault, payload_fault, payload_in, root_value_of_payload, schema_fault}
use Rattle.package_reader.specs.pkg_core.Contents.{Contents, ExpectedFile, bytes_of_file, bytes_or_none, contents_in, expected_files_of_package, fault_if_digest_is_not_of_bytes, is_contents_of_file}
use Rattle.package_reader.specs.pkg_core.GoodContents.{MatchEachExpectedSizeAndKnownDigest, MatchesExpectedSizeAndKnownDigest}
use Rattle.package_reader.specs.pkg_core.Opened.{expected_file_at, is_expected_at}
use Rattle.package_reader.specs.pkg_core.Whole.{fault_of_contents_blocks_by_root_table, files_after_first_block, files_after_header, files_read_from_package, package_fault, container_fault_of_table}
use Rattle.package_reader.proofs.pkg_core.Given.{files_right, nothing_expected}
use Rattle.package_reader.specs.pkg_core.Seen.{HasBytesAtOffset}
use Rattle.package_verifier.specs.Places.{AreAtPlaces, AreInFileOrder, is_place_of, offset_of_file}
use Rattle.package_verifier.specs.declared.places.FilePlace.{FilePlace}
use Rattle.package_verifier.proofs.FileOrder.{expected_in_order, placed_in_order}

-- ---- a package without fault has the contents of each file

blocks_right : (r : Reading) → blocks_fault (fault_of_contents_blocks_by_root_table Package) Package r ≡ None → MatchEachExpectedSizeAndKnownDigest (expected_files_of_package (root_value_of_payload Package (first_block_payload r))) (contents_in (files_after_first_block r))
blocks_right done h = let A : List ExpectedFile → Type 0 = λ es. MatchEachExpectedSizeAndKnownDigest es [] in subst A (sym nothing_expected) tt
blocks_right (fault c) h = (cc)
blocks_right (more b at r) h = files_right (expected_files_of_package (root_value_of_payload Package b.payload)) r (second_none (payload_fault Package b.payload) _ h)

header_right : (file : List ℕ) (h : Result ℕ Cause) → file_fault_by_header_schema_or_fault (fault_of_contents_blocks_by_root_table Package) Package file h ≡ None → MatchEachExpectedSizeAndKnownDigest (expected_files_of_package (root_value_of_payload Package (payload_by_header_schema_or_fault file h))) (contents_in (files_after_header file h))
header_right file (Ok schema) e = blocks_right (block_stream_from (first_block_position_of_schema_and_file schema file)) (second_none (schema_fault Package schema) _ e)
header_right file (Err c) e = (cc)

pub package_right : (file : List ℕ) → package_fault file ≡ None → MatchEachExpectedSizeAndKnownDigest (expected_files_of_package (root_value_of_payload Package (payload_in file))) (contents_in (files_read_from_package file))
unfolding container_fault_of_table files_read_from_package payload_in
package_right file h = header_right file (schema_of_header file) h

-- ---- the file with two positions

same_pair : (a b c d folder file : ℕ) → a ≡ c → b ≡ d → ((a == folder) && (b == file)) ≡ ((c == folder) && (d == file))
same_pair a b c d folder file x y = λ k. ((x k == folder) && (y k == file))

-- the contents of a file that begins there, and what is expected of it
record IsFoundThere (pkg : List ℕ) (folder file at : ℕ) (cs : List Contents) (es : List ExpectedFile) : Type 0 where
  contents : Contents
  expected : ExpectedFile
  found : find (is_contents_of_file folder file) cs ≡ Some contents
  due : expected_file_at folder file es ≡ Some expected
  located : HasBytesAtOffset pkg at contents.bytes
  of : MatchesExpectedSizeAndKnownDigest expected contents

found_there : (pkg : List ℕ) (folder file at : ℕ) (ps : List FilePlace) (cs : List Contents) (es : List ExpectedFile) → AreAtPlaces pkg ps cs → MatchEachExpectedSizeAndKnownDigest es cs → Some at ≡ offset_of_file folder file ps → IsFoundThere pkg folder file at cs es
found_there pkg folder file at [] cs es stand are is = absurd (cc)
found_there pkg folder file at (p ∷ ps) [] es stand are is = absurd stand
found_there pkg folder file at (p ∷ ps) (c ∷ cs) [] stand are is = absurd are
found_there pkg folder file at (p ∷ ps) (c ∷ cs) (e ∷ es) stand are is =
    by_test (is_place_of folder file p) (sym (same_pair p.folder p.file c.folder c.file folder file stand.0.folder stand.0.file)) (sym (same_pair p.folder p.file c.folder c.file folder file stand.0.folder stand.0.file ∙ same_pair c.folder c.file e.folder e.file folder file are.0.folder are.0.file)) is
    (found_there pkg folder file at ps cs es stand.1 are.1)
  where
    by_test : (b : Bool) → is_contents_of_file folder file c ≡ b → is_expected_at folder file e ≡ b → Some at ≡ option_map (λ (p : FilePlace). p.at) (cond b (Some p) (find (is_place_of folder file) ps)) → (Some at ≡ offset_of_file folder file ps → IsFoundThere pkg folder file at cs es) → IsFoundThere pkg folder file at (c ∷ cs) (e ∷ es)
    by_test true t u here others =
        let same : at ≡ p.at = (let s : Some at ≡ Some p.at = here in (cc)) in
        record {
          contents = c;
          expected = e;
          found = ap (λ (b : Bool). cond b (Some c) (find (is_contents_of_file folder file) cs)) t;
          due = ap (λ (b : Bool). cond b (Some e) (find (is_expected_at folder file) es)) u;
          located = subst (λ (n : ℕ). HasBytesAtOffset pkg n c.bytes) (sym same) stand.0.located;
          of = are.0;
        }
    by_test false t u here others =
        let further = others here in
        record {
          contents = further.contents;
          expected = further.expected;
          found = ap (λ (b : Bool). cond b (Some c) (find (is_contents_of_file folder file) cs)) t ∙ further.found;
          due = ap (λ (b : Bool). cond b (Some e) (find (is_expected_at folder file) es)) u ∙ further.due;
          located = further.located;
          of = further.of;
        }

off_there : (pkg : List ℕ) (folder file : ℕ) (ps : List FilePlace) (cs : List Contents) → AreAtPlaces pkg ps cs → None ≡ offset_of_file folder file ps → find (is_contents_of_file folder file) cs ≡ None
off_there pkg folder file [] [] stand is = refl
off_there pkg folder file [] (c ∷ cs) stand is = absurd stand
off_there pkg folder file (p ∷ ps) [] stand is = absurd stand
off_there pkg folder file (p ∷ ps) (c ∷ cs) stand is =
    by_test (is_place_of folder file p) (sym (same_pair p.folder p.file c.folder c.file folder file stand.0.folder stand.0.file)) is (off_there pkg folder file ps cs stand.1)
  where
    by_test : (b : Bool) → is_contents_of_file folder file c ≡ b → None ≡ option_map (λ (p : FilePlace). p.at) (cond b (Some p) (find (is_place_of folder file) ps)) → (None ≡ offset_of_file folder file ps → find (is_contents_of_file folder file) cs ≡ None) → cond (is_contents_of_file folder file c) (Some c) (find (is_contents_of_file folder file) cs) ≡ None
    by_test true t here others = absurd (let s : None ≡ Some p.at = here in (cc))
    by_test false t here others = ap (λ (b : Bool). cond b (Some c) (find (is_contents_of_file folder file) cs)) t ∙ others here

-- ---- what a tested package gives

abbrev pub IsReadFrom : (List ℕ → List ℕ → Type 0) → ℕ → Plain → ℕ → ℕ → Option ℕ → Type 0
IsReadFrom Reads len value folder file at = (pkg bytes : List ℕ) (e : ExpectedFile) (start : ℕ) → length pkg ≡ len → at ≡ Some start → expected_file_at folder file (expected_files_of_package value) ≡ Some e → HasBytesAtOffset pkg start bytes → length bytes ≡ e.size → fault_if_digest_is_not_of_bytes e.hash bytes ≡ None → Reads pkg bytes

none_due : (folder file : ℕ) (cs : List Contents) (es : List ExpectedFile) → MatchEachExpectedSizeAndKnownDigest es cs → find (is_contents_of_file folder file) cs ≡ None → expected_file_at folder file es ≡ None
none_due folder file [] [] are is = refl
none_due folder file [] (e ∷ es) are is = absurd are
none_due folder file (c ∷ cs) [] are is = absurd are
none_due folder file (c ∷ cs) (e ∷ es) are is =
    by_test (is_contents_of_file folder file c) (sym (same_pair c.folder c.file e.folder e.file folder file are.0.folder are.0.file)) is (none_due folder file cs es are.1)
  where
    by_test : (b : Bool) → is_expected_at folder file e ≡ b → cond b (Some c) (find (is_contents_of_file folder file) cs) ≡ None → (find (is_contents_of_file folder file) cs ≡ None → expected_file_at folder file es ≡ None) → cond (is_expected_at folder file e) (Some e) (find (is_expected_at folder file) es) ≡ None
    by_test true t here others = absurd (let s : Some c ≡ None = here in (cc))
    by_test false t here others = ap (λ (b : Bool). cond b (Some e) (find (is_expected_at folder file) es)) t ∙ others here

pub gives_bytes : (Reads : List ℕ → List ℕ → Type 0) (due : Option ExpectedFile) (len folder file : ℕ) (at : Option ℕ) (value : Plain) (pkg : List ℕ) (places : List FilePlace) → package_fault pkg ≡ None → value ≡ root_value_of_payload Package (payload_in pkg) → length pkg ≡ len → AreAtPlaces pkg places (contents_in (files_read_from_package pkg))
    → (AreInFileOrder places → at ≡ offset_of_file folder file places) → due ≡ expected_file_at folder file (expected_files_of_package value) → IsReadFrom Reads len value folder file at → ((pkg : List ℕ) → due ≡ None → Reads pkg [])
    → Reads pkg (bytes_of_file folder file (contents_in (files_read_from_package pkg)))
gives_bytes Reads due len folder file at value pkg places sound same long stand offset is reads empty = by at refl
  where
    cs : List Contents
    cs = contents_in (files_read_from_package pkg)

    are : MatchEachExpectedSizeAndKnownDigest (expected_files_of_package value) cs
    are = subst (λ (v : Plain). MatchEachExpectedSizeAndKnownDigest (expected_files_of_package v) cs) (sym same) (package_right pkg sound)

    order : AreInFileOrder places
    order = placed_in_order pkg places cs (expected_files_of_package value) stand are (expected_in_order value)

    by : (o : Option ℕ) → at ≡ o → Reads pkg (bytes_of_file folder file cs)
    by (Some start) found =
        let f = found_there pkg folder file start places cs (expected_files_of_package value) stand are (sym found ∙ offset order) in
        subst (Reads pkg) (sym (ap bytes_or_none f.found)) (reads pkg f.contents.bytes f.expected start long found f.due f.located f.of.size f.of.hash)
    by None found =
        let off = off_there pkg folder file places cs stand (sym found ∙ offset order) in
        subst (Reads pkg) (sym (ap bytes_or_none off)) (empty pkg (is ∙ none_due folder file cs (expected_files_of_package value) are off))
