-- What is written is sound, and is read back.
use Rattle.std.proofs.Common.{lit<, ◌≡◌, ◌≢◌, ℕ, ◌^◌, ◌<◌, ◌≤◌, Bool, List, [], ◌∷◌, length, Option, Some, None, Ok, refl, ap, sym, subst, ◌∙◌}
use Rattle.std.proofs.lemmas.Grind.{not_there}
use Rattle.base_core.specs.declared.cause.Cause.{Cause}
use Rattle.adb_block.specs.Header.{schema_of_header}
use Rattle.adb_block.specs.AllBlocks.{blocks_of}
use Rattle.adb_block.specs.Container.{IsContainerWithBlocks}
use Rattle.adb_block.specs.BlockWithoutOffset.{BlockWithoutOffset}
use Rattle.adb_view.specs.Plain.{Plain, none, more, array_or_null}
use Rattle.adb_view.specs.Values.{entries_in}
use Rattle.adb_view.specs.declared.tables.Which.{Which}
use Rattle.adb_view.specs.declared.tables.Which.TheVariants.{Idb, Package}
use Rattle.adb_copy.specs.adb_fields.Repeated.{entries_of_field_at_index, list_of}
use Rattle.adb_sound.specs.adb_schema.SoundContainers.{IsSoundContainerExceptContents}
use Rattle.adb_sound.specs.adb_schema.Soundness.{container_fault_except_contents, payload_in, root_value_of_payload, header_schema_if_root_table}
use Rattle.adb_sound.specs.adb_schema.declared.read.TheConstants.{IDB_WORD}
use Rattle.adb_sound.specs.adb_write.Size.{payload_size_of}
use Rattle.adb_sound.specs.adb_write.Canonical.{MOST_BYTES, ByteAndValueCounts, canonical, empty_layout_counting_root, write, payload_unless_overflow, counts_at_first_overflow, payload_or_counts_at_overflow}
use Rattle.adb_sound.specs.adb_write.File.{adb_block_of_payload, file_of}
use Rattle.adb_sound.specs.Root.{IsValidRootValueOfTable}
use Rattle.adb_sound.proofs.Payloads.{payload_long}
use Rattle.adb_sound.specs.pkg_core.Whole.{container_fault, container_fault_after_header, container_fault_of_table}
use Rattle.adb_view.proofs.ValueEntries.{entries_arr, nth_obj}
use Rattle.db_core.specs.Members.{Member}
use Rattle.db_core.specs.NewDatabase.{database_file_of_payload_unless_too_large, database_of, database_value, packages_in_new_database}

written_by : (v : Plain) (o : Option ByteAndValueCounts) (bytes : List ℕ) → database_file_of_payload_unless_too_large (payload_unless_overflow (canonical v) o) ≡ Ok bytes → file_of IDB_WORD (canonical v) ≡ bytes
written_by v None bytes h = cc (h)
written_by v (Some c) bytes h = absurd (cc (h))

pub is_file : (members : List Member) (flags : List Bool) (bytes : List ℕ) → database_of members flags ≡ Ok bytes → file_of IDB_WORD (canonical (database_value members flags)) ≡ bytes
unfolding database_of payload_or_counts_at_overflow
is_file members flags bytes h = written_by (database_value members flags) (counts_at_first_overflow (database_value members flags)) bytes h

not_package : Idb ≢ Package
not_package e = (cc)

-- a container of a good value is sound, and its value is read back
abbrev pub Sound : Type 0
Sound = (which : Which) (schema : ℕ) (v : Plain) → header_schema_if_root_table which ≡ Some schema → which ≢ Package → IsValidRootValueOfTable which v → container_fault (file_of schema (canonical v)) ≡ None

abbrev pub Back : Type 0
Back = (which : Which) (schema : ℕ) (v : Plain) → header_schema_if_root_table which ≡ Some schema → IsValidRootValueOfTable which v → root_value_of_payload which (payload_in (file_of schema (canonical v))) ≡ v

pub is_sound : Sound → (members : List Member) (flags : List Bool) (bytes : List ℕ) → IsValidRootValueOfTable Idb (database_value members flags) → database_of members flags ≡ Ok bytes → container_fault bytes ≡ None
is_sound law members flags bytes root h =
    subst (λ (file : List ℕ). container_fault file ≡ None) (is_file members flags bytes h) (law Idb IDB_WORD (database_value members flags) refl not_package root)

pub packages_in : (members : List Member) (flags : List Bool) → entries_of_field_at_index 0 (database_value members flags) ≡ list_of (packages_in_new_database members flags)
unfolding database_value
packages_in members flags =
    ap (λ v. list_of (entries_in v)) (nth_obj (more (array_or_null (packages_in_new_database members flags)) none) 0) ∙ ap list_of (entries_arr (packages_in_new_database members flags))

pub is_read_back : Back → (members : List Member) (flags : List Bool) (bytes : List ℕ) → IsValidRootValueOfTable Idb (database_value members flags) → database_of members flags ≡ Ok bytes
    → entries_of_field_at_index 0 (root_value_of_payload Idb (payload_in bytes)) ≡ list_of (packages_in_new_database members flags)
is_read_back law members flags bytes root h =
    let back : root_value_of_payload Idb (payload_in (file_of IDB_WORD (canonical (database_value members flags)))) ≡ database_value members flags = law Idb IDB_WORD (database_value members flags) refl root in
    ap (λ (file : List ℕ). entries_of_field_at_index 0 (root_value_of_payload Idb (payload_in file))) (sym (is_file members flags bytes h)) ∙ (ap (entries_of_field_at_index 0) back ∙ packages_in members flags)

-- ---- it passes the tests of a database

abbrev pub Spelled : Type 0
Spelled = (schema : ℕ) (payload : List ℕ) → schema < 2 ^ 32 → 8 ≤ length payload → length payload ≤ MOST_BYTES → IsContainerWithBlocks (file_of schema payload) schema (adb_block_of_payload payload ∷ [])

abbrev pub ReadAs : Type 0
ReadAs = (file : List ℕ) (schema : ℕ) (pieces : List BlockWithoutOffset) → IsContainerWithBlocks file schema pieces → (schema_of_header file ≡ Ok schema) × (blocks_of file ≡ Ok pieces)

database_header : Spelled → ReadAs → (v : Plain) → payload_size_of v ≤ MOST_BYTES → schema_of_header (file_of IDB_WORD (canonical v)) ≡ Ok IDB_WORD
database_header spelled read v fits =
    (read (file_of IDB_WORD (canonical v)) IDB_WORD (adb_block_of_payload (canonical v) ∷ [])
    (spelled IDB_WORD (canonical v) (lit< tt) (payload_long (write v empty_layout_counting_root).0 (write v empty_layout_counting_root).1) fits)).0

whole_is_first : (file : List ℕ) → schema_of_header file ≡ Ok IDB_WORD → container_fault file ≡ None → container_fault_except_contents Idb file ≡ None
unfolding container_fault container_fault_of_table container_fault_except_contents
whole_is_first file header sound = sym (ap (container_fault_after_header file) header) ∙ sound

pub is_sound_database : Spelled → ReadAs → Sound → (members : List Member) (flags : List Bool) (bytes : List ℕ) → IsValidRootValueOfTable Idb (database_value members flags) → database_of members flags ≡ Ok bytes → IsSoundContainerExceptContents Idb bytes
is_sound_database spelled read law members flags bytes root h =
    subst (λ (file : List ℕ). container_fault_except_contents Idb file ≡ None) (is_file members flags bytes h)
    (whole_is_first (file_of IDB_WORD (canonical (database_value members flags))) (database_header spelled read (database_value members flags) root.fits)
    (law Idb IDB_WORD (database_value members flags) refl not_package root))

-- a fact that merely holds tells that there is no cause
pub no_cause : {P : Type 0} (o : Option Cause) → ∥ P ∥₁ → (P → o ≡ None) → o ≡ None
no_cause None fact from = refl
no_cause (Some c) fact from = absurd (not_there fact (λ p. some_cause c (from p)))
  where
    some_cause : (c : Cause) → Some c ≡ None → ⊥
    some_cause c e = (cc)
