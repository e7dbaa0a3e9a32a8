-- Texts and the containers that are generated from them.
use Rattle.std.proofs.Common.{◌≡◌, ◌≢◌, ℕ, ◌<◌, Bool, true, false, eqb, List, [], ◌∷◌, Option, Some, None, Result, Ok, Err, refl, ap, sym, subst, ◌∙◌, inl, inr}
use Rattle.std.proofs.lemmas.Bool.{eqb-true}
use Rattle.std.specs.Prelude.{All, IfSome, IsSome, unwrap_or}
use Rattle.base_core.specs.declared.cause.Cause.{Cause}
use Rattle.adb_block.specs.Header.{schema_of_header}
use Rattle.adb_block.specs.PositionBetweenBlocks.{first_block_position_of_schema_and_file}
use Rattle.adb_block.specs.Reading.{Reading, block_stream_from}
use Rattle.adb_view.specs.Plain.{Plain, null, plain_of, IsNormal}
use Rattle.adb_view.specs.Head.{root_word_of_payload}
use Rattle.adb_view.specs.Schema.{shape_of}
use Rattle.adb_view.specs.Values.{value_at}
use Rattle.adb_view.specs.declared.tables.Which.{Which}
use Rattle.adb_view.specs.declared.tables.Which.TheVariants.{Package, Index, Idb, Intent}
use Rattle.adb_view.specs.declared.tables.Kind.TheVariants.{Obj}
use Rattle.adb_view.proofs.FoundShapes.{shape_null}
use Rattle.outcome.specs.adb_schema.Soundness.{first_block_payload, payload_by_header_schema_or_fault, payload_in, root_value_of_payload, header_schema_if_root_table}
use Rattle.outcome.specs.adb_schema.declared.read.TheConstants.{PACKAGE_WORD, INDEX_WORD, IDB_WORD, INTENT_WORD}
use Rattle.outcome.specs.adb_write.Canonical.{ByteAndValueCounts, canonical, payload_or_counts_at_overflow}
use Rattle.outcome.specs.adb_write.File.{file_of}
use Rattle.outcome.specs.pkg_core.Whole.{table_of_schema}
use Rattle.outcome.proofs.adb_sound.Lower.{Lower}
use Rattle.outcome.specs.adb_dump.Dump.{dump_text}
use Rattle.outcome.specs.adb_dump.Values.{IsOfBytes, IsNormalValueOfTable}
use Rattle.outcome.proofs.adb_dump.Booleans.{chosen}
use Rattle.outcome.specs.gen_core.Dumps.{IsNormalRootValueOfTable}
use Rattle.outcome.specs.gen_core.Generated.{DumpedRoot, dumped_root, file_of_root, file_of_schema_and_payload_unless_too_large, generated_file, schema_word_or_zero}
use Rattle.outcome.specs.Dump.{dump_fault_of_blocks, dump_of, dump_of_first_block_unless_fault_of_blocks, dump_by_schema_number_and_table_if_any, dump_by_schema_unless_header_fault, text_unless_fault}
use Rattle.definition_laws.proofs.dumps.Printed.{HasNamesAmong, Overflows, printed, within}

-- what the layers below say of texts and of values that are found
pub record Texts : Type 0 where
  pub said : (text : List ℕ) (root : DumpedRoot) → dumped_root text ≡ Ok root → IsNormalRootValueOfTable root.which root.value × (dump_text root.which root.value ≡ text)
  pub accepted : (which : Which) (value : Plain) → IsNormalRootValueOfTable which value → dumped_root (dump_text which value) ≡ Ok (record { which = which; value = value })

abbrev pub Found : Type 0
Found = (payload : List ℕ) → All (λ b. b < 256) payload → (which : Which) (word : ℕ) → IfSome (plain_of payload (shape_of (Obj which)) word) (λ v. IsNormalValueOfTable which v × IsOfBytes v)

-- ---- a text, its container, and the text again

some_word : (w : Which) → IsSome (header_schema_if_root_table w) → header_schema_if_root_table w ≡ Some (schema_word_or_zero w)
some_word w e = go (header_schema_if_root_table w) e
  where
    go : (o : Option ℕ) → IsSome o → o ≡ Some (unwrap_or o 0)
    go None e = absurd cc
    go (Some n) e = refl

-- the payload of a container that was generated
written_file : (word : ℕ) (r : Result (List ℕ) ByteAndValueCounts) (file : List ℕ) → file_of_schema_and_payload_unless_too_large word r ≡ Ok file → (payload : List ℕ) × (r ≡ Ok payload) × (file_of word payload ≡ file)
written_file word (Ok payload) file e = (payload, refl, cc)
written_file word (Err counts) file e = absurd cc

pub printed_again : Lower → Overflows → Texts → (text file : List ℕ) → generated_file text ≡ Ok file → dump_of file ≡ Ok text
unfolding generated_file
printed_again laws over texts text file e = go (dumped_root text) refl e
  where
    go : (r : Result DumpedRoot ℕ) → dumped_root text ≡ r → file_of_root r ≡ Ok file → dump_of file ≡ Ok text
    go (Err n) is e = absurd cc
    go (Ok root) is e =
        let (root_is, text_is) = texts.said text root is in
        let (payload, wrote, file_is) = written_file (schema_word_or_zero root.which) (payload_or_counts_at_overflow root.value) file e in
        let (g, canonical_is) = within over root.which root.value payload root_is.normal.0 root_is.normal.1 wrote in
        ap dump_of (sym file_is ∙ ap (file_of (schema_word_or_zero root.which)) (sym canonical_is))
        ∙ printed laws root.which (schema_word_or_zero root.which) root.value (some_word root.which root_is.root) g
        ∙ ap (λ (t : List ℕ). let text : Result (List ℕ) Cause = Ok t in text) text_is

-- ---- a container, its text, and the container again

generated : Texts → (which : Which) (v : Plain) → IsNormalRootValueOfTable which v → generated_file (dump_text which v) ≡ file_of_schema_and_payload_unless_too_large (schema_word_or_zero which) (payload_or_counts_at_overflow v)
unfolding generated_file
generated texts which v is = ap file_of_root (texts.accepted which v is)

root_word : (schema : ℕ) (which : Which) → table_of_schema schema ≡ Some which → header_schema_if_root_table which ≡ Some schema
root_word schema which e =
    elim (chosen (eqb schema PACKAGE_WORD) _ _ _ e) [
      | inl x ↦ named Package PACKAGE_WORD refl x.0 x.1
      | inr x ↦
          elim (chosen (eqb schema INDEX_WORD) _ _ _ x.1) [
            | inl y ↦ named Index INDEX_WORD refl y.0 y.1
            | inr y ↦
                elim (chosen (eqb schema IDB_WORD) _ _ _ y.1) [
                  | inl z ↦ named Idb IDB_WORD refl z.0 z.1
                  | inr z ↦
                      elim (chosen (eqb schema INTENT_WORD) _ _ _ z.1) [
                        | inl u ↦ named Intent INTENT_WORD refl u.0 u.1
                        | inr u ↦ absurd (let f = u.1 in cc)
                      ]
                ]
          ]
    ]
  where
    named : (w : Which) (word : ℕ) → header_schema_if_root_table w ≡ Some word → eqb schema word ≡ true → Some w ≡ Some which → header_schema_if_root_table which ≡ Some schema
    named w word h t e =
        let same : w ≡ which = cc in
        ap header_schema_if_root_table (sym same) ∙ h ∙ ap (λ (n : ℕ). Some n) (sym (eqb-true schema word t))

word_known : (which : Which) (schema : ℕ) → header_schema_if_root_table which ≡ Some schema → (IsSome (header_schema_if_root_table which)) × (schema_word_or_zero which ≡ schema)
word_known which schema e = (subst IsSome (sym e) refl, ap (λ (o : Option ℕ). unwrap_or o 0) e)

-- what is printed of blocks
text_of_blocks : (which : Which) (r : Reading) (text : List ℕ) → dump_of_first_block_unless_fault_of_blocks which r ≡ Ok text → dump_text which (root_value_of_payload which (first_block_payload r)) ≡ text
text_of_blocks which r text e = go (dump_fault_of_blocks which r) e
  where
    go : (o : Option Cause) → text_unless_fault o (dump_text which (root_value_of_payload which (first_block_payload r))) ≡ Ok text → dump_text which (root_value_of_payload which (first_block_payload r)) ≡ text
    go None e = cc
    go (Some c) e = absurd cc

printed_text : (file text : List ℕ) (schema : ℕ) (which : Which) → dump_of file ≡ Ok text → schema_of_header file ≡ Ok schema → table_of_schema schema ≡ Some which → dump_text which (root_value_of_payload which (payload_in file)) ≡ text
unfolding dump_of payload_in
printed_text file text schema which e h root =
    let r = block_stream_from (first_block_position_of_schema_and_file schema file) in
    let blocks : dump_of_first_block_unless_fault_of_blocks which r ≡ Ok text = sym (ap (dump_by_schema_unless_header_fault file) h ∙ ap (dump_by_schema_number_and_table_if_any schema r) root) ∙ e in
    ap (λ (o : Result ℕ Cause). dump_text which (root_value_of_payload which (payload_by_header_schema_or_fault file o))) h ∙ text_of_blocks which r text blocks

null_root : (which : Which) → IsNormalValueOfTable which null × IsOfBytes null
unfolding IsNormal IsOfBytes
null_root which = ((tt, shape_null (shape_of (Obj which))), tt)

found_value : Found → (which : Which) (payload : List ℕ) → All (λ b. b < 256) payload → IsNormalValueOfTable which (root_value_of_payload which payload) × IsOfBytes (root_value_of_payload which payload)
unfolding value_at
found_value found which payload bytes = go (plain_of payload (shape_of (Obj which)) (root_word_of_payload payload)) (found payload bytes which (root_word_of_payload payload))
  where
    go : (o : Option Plain) → IfSome o (λ v. IsNormalValueOfTable which v × IsOfBytes v) → IsNormalValueOfTable which (unwrap_or o null) × IsOfBytes (unwrap_or o null)
    go None h = null_root which
    go (Some v) h = h

pub generated_value : Texts → Found → (file text : List ℕ) (schema : ℕ) (which : Which) → All (λ b. b < 256) (payload_in file) → dump_of file ≡ Ok text → schema_of_header file ≡ Ok schema → table_of_schema schema ≡ Some which
    → generated_file text ≡ file_of_schema_and_payload_unless_too_large schema (payload_or_counts_at_overflow (root_value_of_payload which (payload_in file)))
generated_value texts found file text schema which bytes e h root =
    let word = root_word schema which root in
    let k = word_known which schema word in
    let v = found_value found which (payload_in file) bytes in
    let is : IsNormalRootValueOfTable which (root_value_of_payload which (payload_in file)) = record { root = k.0; normal = v.0; bytes = v.1 } in
    ap generated_file (sym (printed_text file text schema which e h root))
    ∙ generated texts which (root_value_of_payload which (payload_in file)) is
    ∙ ap (λ (n : ℕ). file_of_schema_and_payload_unless_too_large n (payload_or_counts_at_overflow (root_value_of_payload which (payload_in file)))) k.1

abbrev ok_text : List ℕ → Result (List ℕ) Cause
ok_text t = Ok t

same_text : (s t : List ℕ) → ok_text s ≡ ok_text t → s ≡ t
same_text s t e = cc

pub generated_again : Lower → Overflows → Texts → (which : Which) (value : Plain) (schema : ℕ) (payload text : List ℕ) → IsNormalRootValueOfTable which value → header_schema_if_root_table which ≡ Some schema → payload_or_counts_at_overflow value ≡ Ok payload → dump_of (file_of schema payload) ≡ Ok text
    → generated_file text ≡ Ok (file_of schema payload)
generated_again laws over texts which value schema payload text is word wrote e =
    let (g, canonical_is) = within over which value payload is.normal.0 is.normal.1 wrote in
    let dump = ap dump_of (ap (file_of schema) (sym canonical_is)) ∙ printed laws which schema value word g in
    let same : dump_text which value ≡ text = same_text (dump_text which value) text (sym dump ∙ e) in
    let k = word_known which schema word in
    ap generated_file (sym same) ∙ generated texts which value is
    ∙ ap (λ (n : ℕ). file_of_schema_and_payload_unless_too_large n (payload_or_counts_at_overflow value)) k.1 ∙ ap (file_of_schema_and_payload_unless_too_large schema) wrote
