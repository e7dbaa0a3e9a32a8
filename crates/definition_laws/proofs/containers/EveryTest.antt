-- A container has no fault exactly if every test holds.
use Rattle.std.proofs.Common.{◌≡◌, ◌↔◌, ◌⊎◌, inl, inr, ℕ, zero, suc, Bool, true, false, eqb, List, [], ◌∷◌, length, drop, Option, Some, None, Result, Ok, Err, refl, ap, sym, ◌∙◌, subst}
use Rattle.std.specs.Prelude.{slice_get, if◌then◌else◌, ◌||◌, nat_lt, ◌-◌}
use Rattle.std.specs.Option.{option_or}
use Rattle.std.proofs.lemmas.Bool.{eqb-true}
use Rattle.adb_block.specs.Framing.{HeadFields, NextBlockResult, block, ended, failed, block_head_fields, kind_of_number, next_block_result_at_offset, next_block_result_by_header, next_block_result_by_kind_order, next_block_result_by_raw_size}
use Rattle.adb_block.specs.Header.{schema_of_header}
use Rattle.adb_block.specs.BlockWithoutOffset.{BlockWithoutOffset, may_be_next_kind, least_payload_len}
use Rattle.adb_block.specs.Reading.{Reading, done, fault, more, block_stream_with_rest_by_padded_size, bounded_block_stream_from_offset, block_stream_from}
use Rattle.adb_block.specs.PositionBetweenBlocks.{first_block_position_of_schema_and_file}
use Rattle.adb_block.specs.declared.block.BlockKind.{BlockKind}
use Rattle.pkg_core.specs.adb_schema.Soundness.{blocks_fault, file_fault_by_header_schema_or_fault, is_wanted_schema_present_and_equal, payload_fault, root_value_of_payload, schema_fault, header_schema_if_root_table}
use Rattle.pkg_core.specs.adb_schema.declared.read.TheConstants.{PACKAGE_WORD, INDEX_WORD, IDB_WORD, INTENT_WORD}
use Rattle.pkg_core.specs.adb_fields.Repeated.{repeated_fault}
use Rattle.pkg_core.specs.adb_schema.Texts.{text_or_number_fault}
use Rattle.adb_view.specs.Head.{payload_head_fault, root_word_of_payload}
use Rattle.adb_view.specs.Schema.{shape_of}
use Rattle.adb_view.specs.Walk.{shape_fault}
use Rattle.adb_view.specs.declared.tables.Kind.TheVariants.{Obj}
use Rattle.adb_view.specs.declared.tables.Which.{Which}
use Rattle.adb_view.specs.declared.tables.Which.TheVariants.{Package, Index, Idb, Intent}
use Rattle.base_core.specs.declared.cause.Cause.{Cause}
use Rattle.base_core.specs.declared.cause.Cause.TheVariants.{WrongSchema}
use Rattle.base_core.proofs.Causes.{both_none}
use Rattle.definition_laws.specs.containers.TestsInOrder.{PassesEveryContainerTest, tests_of_values}
use Rattle.definition_laws.proofs.containers.FirstTests.{chain, five}
use Rattle.pkg_core.specs.Whole.{fault_of_contents_blocks_by_root_table, container_fault, container_fault_after_header, container_fault_after_schema, table_of_schema, container_fault_of_table}

-- ---- a file without a block is refused

-- a step that is no end
abbrev IsNoEnd : NextBlockResult → Type 0
IsNoEnd s = s ≡ ended → ⊥

either_goes_on : (b : Bool) (s t : NextBlockResult) → IsNoEnd s → IsNoEnd t → IsNoEnd (if b then s else t)
either_goes_on true s t f g = f
either_goes_on false s t f g = g

size_goes_on : (at : ℕ) (bytes : List ℕ) (head : HeadFields) (kind : BlockKind) → IsNoEnd (next_block_result_by_raw_size at bytes head kind)
size_goes_on at bytes head kind =
    either_goes_on (nat_lt head.raw head.len || nat_lt (length bytes) head.raw) _ _ (λ e. absurd cc)
    (either_goes_on (nat_lt (head.raw - head.len) (least_payload_len kind)) _ _ (λ e. absurd cc) (λ e. absurd cc))

order_goes_on : (at : ℕ) (bytes : List ℕ) (head : HeadFields) (kind : Option BlockKind) → IsNoEnd (next_block_result_by_kind_order None at bytes head kind)
order_goes_on at bytes head None e = absurd cc
order_goes_on at bytes head (Some kind) e =
    either_goes_on (may_be_next_kind None kind) _ _ (size_goes_on at bytes head kind) (λ e. absurd cc) e

head_goes_on : (at : ℕ) (bytes : List ℕ) (head : Option HeadFields) → IsNoEnd (next_block_result_by_header None at bytes head)
head_goes_on at bytes None e = absurd cc
head_goes_on at bytes (Some head) e = order_goes_on at bytes head (kind_of_number head.kind) e

first_goes_on : (at : ℕ) (bytes : List ℕ) → IsNoEnd (next_block_result_at_offset None at bytes)
unfolding next_block_result_at_offset
first_goes_on at bytes =
    either_goes_on (eqb (length bytes) 0) _ _ (λ e. absurd cc) (head_goes_on at bytes (block_head_fields bytes))

by_step : (at : ℕ) (further : BlockWithoutOffset → ℕ → Reading) (s : NextBlockResult) → IsNoEnd s → block_stream_with_rest_by_padded_size at further s ≡ done → ⊥
by_step at further ended on e = on refl
by_step at further (failed c) on e = absurd cc
by_step at further (block b size) on e = absurd cc

not_done : (schema : ℕ) (file : List ℕ) → block_stream_from (first_block_position_of_schema_and_file schema file) ≡ done → ⊥
unfolding block_stream_from bounded_block_stream_from_offset
not_done schema file e = by_step 8 _ (next_block_result_at_offset None 8 (drop 8 file)) (first_goes_on 8 (drop 8 file)) e

-- ---- tests that do not fail

abbrev EachPasses : List (Option Cause) → Type 0
EachPasses tests = (i : ℕ) (test : Option Cause) → slice_get tests i ≡ Some test → test ≡ None

none_fails : (tests : List (Option Cause)) → chain tests ≡ None → EachPasses tests
unfolding chain
none_fails [] e i test is = absurd cc
none_fails (t ∷ ts) e zero test is =
    let same : t ≡ test = cc in
    sym same ∙ (both_none t (chain ts) e).0
none_fails (t ∷ ts) e (suc i) test is = none_fails ts (both_none t (chain ts) e).1 i test is

each_holds : (tests : List (Option Cause)) → EachPasses tests → chain tests ≡ None
unfolding chain
each_holds [] each = refl
each_holds (t ∷ ts) each =
    ap (λ (o : Option Cause). option_or o (chain ts)) (each 0 t refl) ∙ each_holds ts (λ i test is. each (suc i) test is)

-- ---- the four schemas

-- one of two values was chosen
chosen_of : (b : Bool) (x y : Option Which) (which : Which) → (if b then x else y) ≡ Some which → ((b ≡ true) × (x ≡ Some which)) ⊎ (y ≡ Some which)
chosen_of true x y which e = inl (refl, e)
chosen_of false x y which e = inr e

wanted : (schema : ℕ) (which : Which) → table_of_schema schema ≡ Some which → is_wanted_schema_present_and_equal (header_schema_if_root_table which) schema ≡ true
wanted schema which e =
    elim (chosen_of (eqb schema PACKAGE_WORD) _ _ which e) [
      | inl x ↦ named Package PACKAGE_WORD refl refl x.0 x.1
      | inr x ↦
          elim (chosen_of (eqb schema INDEX_WORD) _ _ which x) [
            | inl y ↦ named Index INDEX_WORD refl refl y.0 y.1
            | inr y ↦
                elim (chosen_of (eqb schema IDB_WORD) _ _ which y) [
                  | inl z ↦ named Idb IDB_WORD refl refl z.0 z.1
                  | inr z ↦
                      elim (chosen_of (eqb schema INTENT_WORD) _ _ which z) [
                        | inl u ↦ named Intent INTENT_WORD refl refl u.0 u.1
                        | inr u ↦ absurd cc
                      ]
                ]
          ]
    ]
  where
    named : (w : Which) (word : ℕ) → header_schema_if_root_table w ≡ Some word → eqb word word ≡ true → eqb schema word ≡ true → Some w ≡ Some which → is_wanted_schema_present_and_equal (header_schema_if_root_table which) schema ≡ true
    named w word h same t e =
        let same_table : w ≡ which = cc in
        ap (λ (x : Which). is_wanted_schema_present_and_equal (header_schema_if_root_table x) schema) (sym same_table)
        ∙ ap (λ (o : Option ℕ). is_wanted_schema_present_and_equal o schema) h
        ∙ ap (eqb word) (eqb-true schema word t) ∙ same

-- ---- both ways

by_reading : (which : Which) (r : Reading) → (r ≡ done → ⊥) → blocks_fault (fault_of_contents_blocks_by_root_table which) which r ≡ None
    → (first : BlockWithoutOffset) × (at : ℕ) × (behind : Reading) × (r ≡ more first at behind) × EachPasses (tests_of_values which first.payload behind)
by_reading which done on e = absurd (on refl)
by_reading which (fault c) on e = absurd cc
by_reading which (more b at r) on e =
    (b, at, r, refl, none_fails (tests_of_values which b.payload r) (sym (five (payload_head_fault b.payload) (shape_fault b.payload (shape_of (Obj which)) (root_word_of_payload b.payload)) (text_or_number_fault which (root_value_of_payload which b.payload)) (repeated_fault which (root_value_of_payload which b.payload)) (fault_of_contents_blocks_by_root_table which (root_value_of_payload which b.payload) r)) ∙ e))

by_table : (file : List ℕ) (schema : ℕ) (which : Which) → schema_of_header file ≡ Ok schema → table_of_schema schema ≡ Some which → container_fault_of_table which file ≡ None → PassesEveryContainerTest file
unfolding container_fault_of_table
by_table file schema which header root e =
    let all : file_fault_by_header_schema_or_fault (fault_of_contents_blocks_by_root_table which) which file (Ok schema) ≡ None = sym (ap (file_fault_by_header_schema_or_fault (fault_of_contents_blocks_by_root_table which) which file) header) ∙ e in
    let blocks = (both_none (schema_fault which schema) _ all).1 in
    let (first, at, behind, is, each) = by_reading which (block_stream_from (first_block_position_of_schema_and_file schema file)) (not_done schema file) blocks in
    record {
      schema = schema;
      header = header;
      which = which;
      root = root;
      first = first;
      at = at;
      behind = behind;
      blocks = is;
      each = each;
    }

by_root : (file : List ℕ) (schema : ℕ) (root : Option Which) → schema_of_header file ≡ Ok schema → table_of_schema schema ≡ root → container_fault_after_schema file schema root ≡ None → PassesEveryContainerTest file
by_root file schema None header root e = absurd cc
by_root file schema (Some which) header root e = by_table file schema which header root e

by_header : (file : List ℕ) (h : Result ℕ Cause) → schema_of_header file ≡ h → container_fault_after_header file h ≡ None → PassesEveryContainerTest file
by_header file (Err c) header e = absurd cc
by_header file (Ok schema) header e = by_root file schema (table_of_schema schema) header refl e

passes : (file : List ℕ) → container_fault file ≡ None → PassesEveryContainerTest file
unfolding container_fault
passes file e = by_header file (schema_of_header file) refl e

accepted : (file : List ℕ) → PassesEveryContainerTest file → container_fault file ≡ None
unfolding container_fault container_fault_of_table
accepted file p =
    let values = tests_of_values p.which p.first.payload p.behind in
    let blocks : blocks_fault (fault_of_contents_blocks_by_root_table p.which) p.which (block_stream_from (first_block_position_of_schema_and_file p.schema file)) ≡ None =
    ap (blocks_fault (fault_of_contents_blocks_by_root_table p.which) p.which) p.blocks
    ∙ five (payload_head_fault p.first.payload) (shape_fault p.first.payload (shape_of (Obj p.which)) (root_word_of_payload p.first.payload)) (text_or_number_fault p.which (root_value_of_payload p.which p.first.payload)) (repeated_fault p.which (root_value_of_payload p.which p.first.payload))
    (fault_of_contents_blocks_by_root_table p.which (root_value_of_payload p.which p.first.payload) p.behind)
    ∙ each_holds values p.each in
    ap (container_fault_after_header file) p.header
    ∙ ap (container_fault_after_schema file p.schema) p.root
    ∙ ap (file_fault_by_header_schema_or_fault (fault_of_contents_blocks_by_root_table p.which) p.which file) p.header
    ∙ ap (λ (b : Bool). option_or (if b then None else Some (WrongSchema p.schema)) (blocks_fault (fault_of_contents_blocks_by_root_table p.which) p.which (block_stream_from (first_block_position_of_schema_and_file p.schema file)))) (wanted p.schema p.which p.root)
    ∙ blocks

pub every_test : (file : List ℕ) → (container_fault file ≡ None) ↔ PassesEveryContainerTest file
every_test file = (passes file, accepted file)
