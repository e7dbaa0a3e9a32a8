-- The container of an intent's value passes all tests, and is read as this intent.
use Rattle.std.proofs.Common.{◌≡◌, ◌≢◌, ℕ, ◌≤◌, ◌<◌, ◌^◌, List, [], ◌∷◌, length, Some, None, Ok, sym, ap, ◌∙◌, lit<}
use Rattle.adb_sound.proofs.Payloads.{payload_long}
use Rattle.adb_block.specs.AllBlocks.{blocks_of}
use Rattle.adb_block.specs.Container.{IsContainerWithBlocks}
use Rattle.adb_block.specs.Header.{schema_of_header}
use Rattle.adb_block.specs.BlockWithoutOffset.{BlockWithoutOffset}
use Rattle.adb_view.specs.Plain.{Plain}
use Rattle.adb_sound.specs.adb_schema.Soundness.{container_fault_except_contents, payload_in, root_value_of_payload}
use Rattle.adb_sound.specs.adb_schema.declared.read.TheConstants.{INTENT_WORD}
use Rattle.adb_view.specs.declared.tables.Which.TheVariants.{Intent as Table, Package}
use Rattle.adb_sound.specs.adb_write.Canonical.{canonical, empty_layout_counting_root, write, MOST_BYTES}
use Rattle.adb_sound.specs.adb_write.File.{adb_block_of_payload, file_of}
use Rattle.adb_sound.specs.adb_write.Size.{payload_size_of}
use Rattle.adb_sound.specs.pkg_core.Whole.{container_fault, container_fault_after_header, container_fault_of_table}
use Rattle.journal_intent.specs.Intent.{intent_of_value, intent_unless_fault, read_intent}

pub not_package : Table ≢ Package
not_package e = cc

-- with the schema of an intent all tests of a container are those of one
whole_is_first : (file : List ℕ) → schema_of_header file ≡ Ok INTENT_WORD → container_fault file ≡ None → container_fault_except_contents Table file ≡ None
unfolding container_fault container_fault_of_table container_fault_except_contents
whole_is_first file header sound = sym (ap (container_fault_after_header file) header) ∙ sound

pub header_is : ((schema : ℕ) (payload : List ℕ) → schema < 2 ^ 32 → 8 ≤ length payload → length payload ≤ MOST_BYTES → IsContainerWithBlocks (file_of schema payload) schema (adb_block_of_payload payload ∷ []))
    → ((file : List ℕ) (schema : ℕ) (pieces : List BlockWithoutOffset) → IsContainerWithBlocks file schema pieces → (schema_of_header file ≡ Ok schema) × (blocks_of file ≡ Ok pieces))
    → (v : Plain) → payload_size_of v ≤ MOST_BYTES → schema_of_header (file_of INTENT_WORD (canonical v)) ≡ Ok INTENT_WORD
header_is spelled read v fits =
    (read (file_of INTENT_WORD (canonical v)) INTENT_WORD (adb_block_of_payload (canonical v) ∷ [])
    (spelled INTENT_WORD (canonical v) (lit< tt) (payload_long (write v empty_layout_counting_root).0 (write v empty_layout_counting_root).1) fits)).0

pub intent_read : (v : Plain) → schema_of_header (file_of INTENT_WORD (canonical v)) ≡ Ok INTENT_WORD → container_fault (file_of INTENT_WORD (canonical v)) ≡ None
    → root_value_of_payload Table (payload_in (file_of INTENT_WORD (canonical v))) ≡ v → read_intent (file_of INTENT_WORD (canonical v)) ≡ Some (intent_of_value v)
unfolding read_intent
intent_read v header sound back =
    ap (λ o. intent_unless_fault o (root_value_of_payload Table (payload_in (file_of INTENT_WORD (canonical v))))) (whole_is_first (file_of INTENT_WORD (canonical v)) header sound)
    ∙ ap (λ (u : Plain). Some (intent_of_value u)) back
