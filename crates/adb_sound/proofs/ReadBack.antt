-- What a container is made of is read back from it.
use Rattle.std.proofs.Common.{◌≡◌, ℕ, ◌^◌, ◌<◌, List, [], ◌∷◌, Option, Some, None, Ok, refl, ap, sym, subst, ◌∙◌, arith, length}
use Rattle.std.specs.Prelude.{map}
use Rattle.base_core.specs.declared.cause.Cause.{Cause}
use Rattle.adb_block.specs.BlockWithoutOffset.{BlockWithoutOffset}
use Rattle.adb_block.specs.Header.{schema_of_header}
use Rattle.adb_block.specs.PositionBetweenBlocks.{first_block_position_of_schema_and_file}
use Rattle.adb_block.specs.Reading.{Reading, block_stream_from}
use Rattle.adb_block.specs.AllBlocks.{blocks_of_stream}
use Rattle.adb_view.specs.Plain.{Plain}
use Rattle.pkg_core.specs.adb_schema.Soundness.{first_block_payload, payload_by_header_schema_or_fault, payload_in, root_value_of_payload, header_schema_if_root_table}
use Rattle.pkg_core.specs.adb_schema.declared.read.TheConstants.{PACKAGE_WORD}
use Rattle.adb_view.specs.declared.tables.Which.{Which}
use Rattle.adb_view.specs.declared.tables.Which.TheVariants.{Package}
use Rattle.adb_write.specs.Canonical.{canonical, write, empty_layout_counting_root}
use Rattle.adb_write.specs.File.{adb_block_of_payload, file_of}
use Rattle.pkg_core.specs.Contents.{ExpectedFile, Contents, contents_in, expected_files_of_package, files_read_from_blocks, files_or_fault_alone, with_contents_of_next}
use Rattle.pkg_core.specs.GoodContents.{MatchEachExpectedSizeAndKnownDigest}
use Rattle.pkg_core.specs.Whole.{files_after_first_block, files_after_header, files_read_from_package, package_with_contents}
use Rattle.adb_sound.specs.Container.{contents_payload, block_of_contents, container_of_value_and_contents, package_with_contents_from_parts}
use Rattle.adb_sound.specs.Root.{IsValidRootValueOfTable}
use Rattle.adb_sound.proofs.ContentsBlocks.{IsFirstOf, block_good, contents_stand, first_of, none_of_blocks}
use Rattle.adb_sound.proofs.LaidSizes.{AreShort, laid_short}
use Rattle.adb_sound.proofs.Lower.{Lower}
use Rattle.adb_sound.proofs.Payloads.{payload_long, value_is}
use Rattle.adb_sound.proofs.Positions.{AreBelow, expected_below}
use Rattle.adb_sound.proofs.SoundFiles.{IsWord, reading_is, word_is}

-- ---- the blocks of a container

record IsLaid (schema : ℕ) (v : Plain) (contents : List Contents) : Type 0 where
  header : schema_of_header (container_of_value_and_contents schema v contents) ≡ Ok schema
  first : IsFirstOf (block_stream_from (first_block_position_of_schema_and_file schema (container_of_value_and_contents schema v contents))) (adb_block_of_payload (canonical v)) (map block_of_contents contents)

laid : Lower → (which : Which) (schema : ℕ) (v : Plain) (contents : List Contents) → IsWord which schema → IsValidRootValueOfTable which v → AreShort contents → IsLaid schema v contents
laid laws which schema v contents word g short =
    let pieces : List BlockWithoutOffset = adb_block_of_payload (canonical v) ∷ map block_of_contents contents in
    let long = payload_long (write v empty_layout_counting_root).0 (write v empty_layout_counting_root).1 in
    let fits = g.fits in
    let spelled = laws.written schema pieces word.small (record { order = refl; long = long }, omega arith, contents_stand contents short) in
    let read = laws.read (container_of_value_and_contents schema v contents) schema pieces spelled in
    record {
      header = read.0;
      first = first_of (block_stream_from (first_block_position_of_schema_and_file schema (container_of_value_and_contents schema v contents))) (adb_block_of_payload (canonical v)) (map block_of_contents contents)
          (reading_is (container_of_value_and_contents schema v contents) schema pieces read.0 read.1);
    }

-- ---- its value

payload_back : (schema : ℕ) (v : Plain) (contents : List Contents) → IsLaid schema v contents → payload_in (container_of_value_and_contents schema v contents) ≡ canonical v
unfolding payload_in
payload_back schema v contents l =
    ap (payload_by_header_schema_or_fault (container_of_value_and_contents schema v contents)) l.header ∙ ap first_block_payload l.first.is

root_back : Lower → (which : Which) (schema : ℕ) (v : Plain) (contents : List Contents) → IsValidRootValueOfTable which v → IsLaid schema v contents → root_value_of_payload which (payload_in (container_of_value_and_contents schema v contents)) ≡ v
root_back laws which schema v contents g l = ap (root_value_of_payload which) (payload_back schema v contents l) ∙ value_is laws which v g

pub value_back : Lower → (which : Which) (schema : ℕ) (v : Plain) → header_schema_if_root_table which ≡ Some schema → IsValidRootValueOfTable which v → root_value_of_payload which (payload_in (file_of schema (canonical v))) ≡ v
value_back laws which schema v word g = root_back laws which schema v [] g (laid laws which schema v [] (word_is which schema word) g tt)

-- ---- its contents

same_contents : (c : Contents) (folder file : ℕ) → c.folder ≡ folder → c.file ≡ file → record { folder = folder; file = file; bytes = c.bytes } ≡ c
same_contents c folder file a b = λ k. record { folder = sym a k; file = sym b k; bytes = c.bytes }

contents_back : (es : List ExpectedFile) (cs : List Contents) (r : Reading) → blocks_of_stream r ≡ Ok (map block_of_contents cs) → AreBelow (2 ^ 32) es → MatchEachExpectedSizeAndKnownDigest es cs → contents_in (files_read_from_blocks es r) ≡ cs
unfolding files_read_from_blocks
contents_back [] [] r p small all = subst (λ (q : Reading). contents_in (files_read_from_blocks [] q) ≡ []) (sym (none_of_blocks r p)) refl
contents_back [] (c ∷ cs) r p small all = absurd all
contents_back (e ∷ es) [] r p small all = absurd all
contents_back (e ∷ es) (c ∷ cs) r p small all =
    let first = first_of r (block_of_contents c) (map block_of_contents cs) p in
    let good = block_good c first.at e es small.0 small.1 all.0 in
    let same = same_contents c e.folder e.file all.0.folder all.0.file in
    let rest = contents_back es cs first.later first.others small.2 all.1 in
    subst (λ (q : Reading). contents_in (files_read_from_blocks (e ∷ es) q) ≡ c ∷ cs) (sym first.is)
    (ap (λ (o : Option Cause). contents_in (files_or_fault_alone o (with_contents_of_next (contents_payload c) (λ left. files_read_from_blocks left first.later) (e ∷ es)))) good ∙ (λ k. same k ∷ rest k))

pub package_back : Lower → (v : Plain) (contents : List Contents) → IsValidRootValueOfTable Package v → MatchEachExpectedSizeAndKnownDigest (expected_files_of_package v) contents → length (container_of_value_and_contents PACKAGE_WORD v contents) < 2 ^ 64 → package_with_contents (container_of_value_and_contents PACKAGE_WORD v contents) ≡ package_with_contents_from_parts v contents
unfolding files_read_from_package
package_back laws v contents g all short =
    let few = g.few in
    let file : List ℕ = container_of_value_and_contents PACKAGE_WORD v contents in
    let l = laid laws Package PACKAGE_WORD v contents (word_is Package PACKAGE_WORD refl) g (laid_short PACKAGE_WORD v contents short) in
    let read = contents_back (expected_files_of_package v) contents l.first.later l.first.others (expected_below (2 ^ 32) v (omega arith)) all in
    let value = root_back laws Package PACKAGE_WORD v contents g l in
    let by_root = ap (λ (u : Plain). contents_in (files_read_from_blocks (expected_files_of_package u) l.first.later)) (value_is laws Package v g) in
    let back : contents_in (files_read_from_package file) ≡ contents =
    ap (λ o. contents_in (files_after_header file o)) l.header
    ∙ ap (λ r. contents_in (files_after_first_block r)) l.first.is
    ∙ by_root ∙ read in
    λ k. record { value = value k; contents = back k }
