-- Of a whole file no test fails.
use Rattle.std.proofs.Common.{◌≡◌, ◌≢◌, ℕ, ◌^◌, ◌<◌, List, [], ◌∷◌, Some, None, Ok, refl, ap, sym, subst, ◌∙◌, arith, lit<, length}
use Rattle.std.specs.Prelude.{map}
use Rattle.base_core.proofs.Causes.{none_both}
use Rattle.adb_block.specs.BlockWithoutOffset.{BlockWithoutOffset}
use Rattle.adb_block.specs.Header.{schema_of_header}
use Rattle.adb_block.specs.PositionBetweenBlocks.{first_block_position_of_schema_and_file}
use Rattle.adb_block.specs.Reading.{Reading, done, more, block_stream_from}
use Rattle.adb_block.specs.AllBlocks.{blocks_of_stream, blocks_from_position, blocks_after_header, blocks_of}
use Rattle.adb_view.specs.Plain.{Plain}
use Rattle.pkg_core.specs.adb_schema.Soundness.{blocks_fault, file_fault_by_header_schema_or_fault, remaining_blocks_fault, payload_fault, root_value_of_payload, header_schema_if_root_table}
use Rattle.pkg_core.specs.adb_schema.Soundness as S
use Rattle.adb_view.specs.declared.tables.Which.{Which}
use Rattle.adb_view.specs.declared.tables.Which.TheVariants.{Dep, Acl, PkgInfo, File, Dir, Scripts, Package, Index, Idb, Intent}
use Rattle.pkg_core.specs.adb_schema.declared.read.TheConstants.{PACKAGE_WORD, INDEX_WORD, IDB_WORD, INTENT_WORD}
use Rattle.adb_write.specs.Canonical.{canonical, write, empty_layout_counting_root}
use Rattle.adb_write.specs.File.{adb_block_of_payload, file_of}
use Rattle.pkg_core.specs.Contents.{Contents, expected_files_of_package}
use Rattle.pkg_core.specs.GoodContents.{MatchEachExpectedSizeAndKnownDigest}
use Rattle.pkg_core.specs.Whole.{fault_of_contents_blocks_by_root_table, container_fault, container_fault_after_header, table_of_schema, container_fault_after_schema, container_fault_of_table}
use Rattle.adb_sound.specs.Container.{block_of_contents, container_of_value_and_contents}
use Rattle.adb_sound.specs.Root.{IsValidRootValueOfTable}
use Rattle.adb_sound.proofs.LaidSizes.{AreShort, laid_short}
use Rattle.adb_sound.proofs.Lower.{Lower}
use Rattle.adb_sound.proofs.Payloads.{payload_good, payload_long, value_is}
use Rattle.adb_sound.proofs.Positions.{expected_below}
use Rattle.adb_sound.proofs.ContentsBlocks.{blocks_good, contents_stand, first_of, none_of_blocks}

-- ---- a schema's word

pub record IsWord (which : Which) (schema : ℕ) : Type 0 where
  pub root : table_of_schema schema ≡ Some which
  pub wanted : S.schema_fault which schema ≡ None
  pub small : schema < 2 ^ 32

pub word_is : (which : Which) (schema : ℕ) → header_schema_if_root_table which ≡ Some schema → IsWord which schema
word_is Dep schema e = absurd cc
word_is Acl schema e = absurd cc
word_is PkgInfo schema e = absurd cc
word_is File schema e = absurd cc
word_is Dir schema e = absurd cc
word_is Scripts schema e = absurd cc
word_is Package schema e = let same : PACKAGE_WORD ≡ schema = cc in subst (IsWord Package) same (record { root = refl; wanted = refl; small = lit< tt })
word_is Index schema e = let same : INDEX_WORD ≡ schema = cc in subst (IsWord Index) same (record { root = refl; wanted = refl; small = lit< tt })
word_is Idb schema e = let same : IDB_WORD ≡ schema = cc in subst (IsWord Idb) same (record { root = refl; wanted = refl; small = lit< tt })
word_is Intent schema e = let same : INTENT_WORD ≡ schema = cc in subst (IsWord Intent) same (record { root = refl; wanted = refl; small = lit< tt })

-- ---- by its header, and then by its blocks

whole_good : (which : Which) (schema : ℕ) (file : List ℕ) → IsWord which schema → schema_of_header file ≡ Ok schema
    → blocks_fault (fault_of_contents_blocks_by_root_table which) which (block_stream_from (first_block_position_of_schema_and_file schema file)) ≡ None → container_fault file ≡ None
unfolding container_fault container_fault_of_table
whole_good which schema file word h blocks =
    ap (container_fault_after_header file) h
    ∙ (ap (container_fault_after_schema file schema) word.root
    ∙ (ap (file_fault_by_header_schema_or_fault (fault_of_contents_blocks_by_root_table which) which file) h
    ∙ none_both (S.schema_fault which schema) (blocks_fault (fault_of_contents_blocks_by_root_table which) which (block_stream_from (first_block_position_of_schema_and_file schema file))) word.wanted blocks))

blocks_by_first : (which : Which) (r : Reading) (b : BlockWithoutOffset) (at : ℕ) (later : Reading) → r ≡ more b at later → payload_fault which b.payload ≡ None
    → fault_of_contents_blocks_by_root_table which (root_value_of_payload which b.payload) later ≡ None → blocks_fault (fault_of_contents_blocks_by_root_table which) which r ≡ None
blocks_by_first which r b at later is payload behind = ap (blocks_fault (fault_of_contents_blocks_by_root_table which) which) is ∙ none_both _ _ payload behind

-- the reader gives these blocks
pub reading_is : (file : List ℕ) (schema : ℕ) (pieces : List BlockWithoutOffset) → schema_of_header file ≡ Ok schema → blocks_of file ≡ Ok pieces → blocks_of_stream (block_stream_from (first_block_position_of_schema_and_file schema file)) ≡ Ok pieces
unfolding blocks_of blocks_from_position
reading_is file schema pieces h b = sym (ap (blocks_after_header file) h) ∙ b

pub laid_good : Lower → (which : Which) (schema : ℕ) (v : Plain) (contents : List Contents) → IsWord which schema → IsValidRootValueOfTable which v → AreShort contents
    → ((r : Reading) → blocks_of_stream r ≡ Ok (map block_of_contents contents) → fault_of_contents_blocks_by_root_table which v r ≡ None)
    → container_fault (container_of_value_and_contents schema v contents) ≡ None
laid_good laws which schema v contents word g short behind =
    let pieces : List BlockWithoutOffset = adb_block_of_payload (canonical v) ∷ map block_of_contents contents in
    let long = payload_long (write v empty_layout_counting_root).0 (write v empty_layout_counting_root).1 in
    let fits = g.fits in
    let spelled = laws.written schema pieces word.small (record { order = refl; long = long }, omega arith, contents_stand contents short) in
    let read = laws.read (container_of_value_and_contents schema v contents) schema pieces spelled in
    let r : Reading = block_stream_from (first_block_position_of_schema_and_file schema (container_of_value_and_contents schema v contents)) in
    let first = first_of r (adb_block_of_payload (canonical v)) (map block_of_contents contents) (reading_is (container_of_value_and_contents schema v contents) schema pieces read.0 read.1) in
    let rest = ap (λ (u : Plain). fault_of_contents_blocks_by_root_table which u first.later) (value_is laws which v g) ∙ behind first.later first.others in
    whole_good which schema (container_of_value_and_contents schema v contents) word read.0 (blocks_by_first which r (adb_block_of_payload (canonical v)) first.at first.later first.is (payload_good laws which v g) rest)

-- ---- a package, and the others

pub package_good : Lower → (v : Plain) (contents : List Contents) → IsValidRootValueOfTable Package v → MatchEachExpectedSizeAndKnownDigest (expected_files_of_package v) contents → length (container_of_value_and_contents PACKAGE_WORD v contents) < 2 ^ 64 → container_fault (container_of_value_and_contents PACKAGE_WORD v contents) ≡ None
package_good laws v contents g all short =
    let few = g.few in
    laid_good laws Package PACKAGE_WORD v contents (word_is Package PACKAGE_WORD refl) g (laid_short PACKAGE_WORD v contents short)
    (λ r p. blocks_good (expected_files_of_package v) contents r p (expected_below (2 ^ 32) v (omega arith)) all)

behind_good : (which : Which) (schema : ℕ) (v : Plain) → header_schema_if_root_table which ≡ Some schema → which ≢ Package → fault_of_contents_blocks_by_root_table which v done ≡ None
unfolding remaining_blocks_fault
behind_good Dep schema v e ne = absurd cc
behind_good Acl schema v e ne = absurd cc
behind_good PkgInfo schema v e ne = absurd cc
behind_good File schema v e ne = absurd cc
behind_good Dir schema v e ne = absurd cc
behind_good Scripts schema v e ne = absurd cc
behind_good Package schema v e ne = absurd (ne refl)
behind_good Index schema v e ne = refl
behind_good Idb schema v e ne = refl
behind_good Intent schema v e ne = refl

pub value_good : Lower → (which : Which) (schema : ℕ) (v : Plain) → header_schema_if_root_table which ≡ Some schema → which ≢ Package → IsValidRootValueOfTable which v → container_fault (file_of schema (canonical v)) ≡ None
value_good laws which schema v word ne g =
    laid_good laws which schema v [] (word_is which schema word) g tt
    (λ r p. subst (λ (q : Reading). fault_of_contents_blocks_by_root_table which v q ≡ None) (sym (none_of_blocks r p)) (behind_good which schema v word ne))
