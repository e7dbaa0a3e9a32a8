-- Which test of a container fails first.
use Rattle.std.proofs.Common.{◌≡◌, inl, inr, ℕ, zero, suc, ◌<◌, Bool, true, false, if◌then◌else◌, List, [], ◌∷◌, Option, Some, None, Result, Ok, Err, refl, ap, sym, ◌∙◌, arith}
use Rattle.std.specs.Prelude.{slice_get}
use Rattle.std.specs.Option.{option_or}
use Rattle.adb_block.specs.Header.{schema_of_header}
use Rattle.adb_block.specs.Reading.{Reading, done, fault, more, block_stream_from}
use Rattle.adb_block.specs.PositionBetweenBlocks.{first_block_position_of_schema_and_file}
use Rattle.pkg_core.specs.adb_schema.Soundness.{blocks_fault, file_fault_by_header_schema_or_fault, is_wanted_schema_present_and_equal, root_value_of_payload, header_schema_if_root_table}
use Rattle.adb_view.specs.declared.tables.Which.{Which}
use Rattle.base_core.specs.declared.cause.Cause.{Cause}
use Rattle.base_core.specs.declared.cause.Cause.TheVariants.{WrongSchema}
use Rattle.definition_laws.specs.containers.TestsInOrder.{IsBlocksFault, IsContainerFault, IsContainerFaultForTable, IsFirstFailing, tests_of_values}
use Rattle.definition_laws.proofs.containers.FirstHeader.{header_told}
use Rattle.pkg_core.specs.Whole.{fault_of_contents_blocks_by_root_table, container_fault, container_fault_after_header, container_fault_after_schema, table_of_schema, container_fault_of_table}
use Rattle.pkg_core.proofs.WholeTests.{or_none}

-- ---- tests in sequence

unfoldable pub chain : List (Option Cause) → Option Cause
chain [] = None
chain (t ∷ ts) = option_or t (chain ts)

first_of : (tests : List (Option Cause)) (c : Cause) → chain tests ≡ Some c → IsFirstFailing tests c
unfolding chain
first_of [] c e = absurd (cc (e))
first_of (Some d ∷ ts) c e =
    let same : d ≡ c = cc (e) in
    record { place = 0; fails = ap (λ (x : Cause). Some (Some x)) same; before = λ j lt. absurd (omega arith) }
first_of (None ∷ ts) c e = further (first_of ts c e)
  where
    before_one : (f : IsFirstFailing ts c) (j : ℕ) → j < suc f.place → slice_get (None ∷ ts) j ≡ Some None
    before_one f zero lt = refl
    before_one f (suc j) lt = f.before j (omega arith)

    further : IsFirstFailing ts c → IsFirstFailing (None ∷ ts) c
    further f = record { place = suc f.place; fails = f.fails; before = before_one f }

pub five : (a b d e f : Option Cause) → option_or (option_or a (option_or b (option_or d e))) f ≡ chain (a ∷ (b ∷ (d ∷ (e ∷ (f ∷ [])))))
unfolding chain
five (Some x) b d e f = refl
five None (Some x) d e f = refl
five None None (Some x) e f = refl
five None None None e f = ap (option_or e) (sym (or_none f))

-- ---- the blocks

blocks_told : (which : Which) (r : Reading) (c : Cause) → blocks_fault (fault_of_contents_blocks_by_root_table which) which r ≡ Some c → IsBlocksFault which r c
blocks_told which done c e = absurd (cc (e))
blocks_told which (fault d) c e = let same : d ≡ c = cc (e) in inl (ap fault same)
blocks_told which (more b at r) c e =
    inr (b, at, r, refl, first_of (tests_of_values which b.payload r) c (sym (five _ _ _ _ (fault_of_contents_blocks_by_root_table which (root_value_of_payload which b.payload) r)) ∙ e))

table_by : (which : Which) (file : List ℕ) (c : Cause) (schema : ℕ) (b : Bool) → schema_of_header file ≡ Ok schema → is_wanted_schema_present_and_equal (header_schema_if_root_table which) schema ≡ b
    → option_or (if b then None else Some (WrongSchema schema)) (blocks_fault (fault_of_contents_blocks_by_root_table which) which (block_stream_from (first_block_position_of_schema_and_file schema file))) ≡ Some c → IsContainerFaultForTable which file c
table_by which file c schema true header wanted e = inr (schema, header, inr (wanted, blocks_told which (block_stream_from (first_block_position_of_schema_and_file schema file)) c e))
table_by which file c schema false header wanted e =
    let same : WrongSchema schema ≡ c = cc (e) in
    inr (schema, header, inl (wanted, sym same))

by_header : (which : Which) (file : List ℕ) (c : Cause) (h : Result ℕ Cause) → schema_of_header file ≡ h → file_fault_by_header_schema_or_fault (fault_of_contents_blocks_by_root_table which) which file h ≡ Some c → IsContainerFaultForTable which file c
by_header which file c (Err d) header e =
    let same : d ≡ c = cc (e) in
    inl (header_told file c (header ∙ ap Err same))
by_header which file c (Ok schema) header e = table_by which file c schema (is_wanted_schema_present_and_equal (header_schema_if_root_table which) schema) header refl e

pub table_told : (which : Which) (file : List ℕ) (c : Cause) → container_fault_of_table which file ≡ Some c → IsContainerFaultForTable which file c
unfolding container_fault_of_table
table_told which file c e = by_header which file c (schema_of_header file) refl e

by_schema : (file : List ℕ) (c : Cause) (schema : ℕ) (root : Option Which) → schema_of_header file ≡ Ok schema → table_of_schema schema ≡ root → container_fault_after_schema file schema root ≡ Some c → IsContainerFault file c
by_schema file c schema None header root e =
    let same : WrongSchema schema ≡ c = cc (e) in
    inr (schema, header, inl (root, sym same))
by_schema file c schema (Some which) header root e = inr (schema, header, inr (which, root, table_told which file c e))

any_by : (file : List ℕ) (c : Cause) (h : Result ℕ Cause) → schema_of_header file ≡ h → container_fault_after_header file h ≡ Some c → IsContainerFault file c
any_by file c (Err d) header e =
    let same : d ≡ c = cc (e) in
    inl (header_told file c (header ∙ ap Err same))
any_by file c (Ok schema) header e = by_schema file c schema (table_of_schema schema) header refl e

pub any_told : (file : List ℕ) (c : Cause) → container_fault file ≡ Some c → IsContainerFault file c
unfolding container_fault
any_told file c e = any_by file c (schema_of_header file) refl e
