-- The text of a container, by the blocks that are read of it.
use Rattle.std.proofs.Common.{◌≡◌, ℕ, true, false, if◌then◌else◌, List, [], ◌∷◌, Option, Some, None, is_some, Result, Ok, Err, refl, sym, ap, subst, ◌∙◌, ◌==◌, length, suc, arith}
use Rattle.std.specs.List.{slice_get}
use Rattle.std.proofs.lemmas.Option.{none-some, same_Some}
use Rattle.base_core.specs.declared.cause.Cause.{Cause}
use Rattle.base_core.specs.Calls.{IfObservable}
use Rattle.base_core.specs.Files.{Files, no_names}
use Rattle.base_core.specs.Tree.{TreeState, files_of}
use Rattle.adb_block.specs.Header.{schema_of_header}
use Rattle.adb_block.specs.Reading.{Reading, done, fault, more, block_stream_from}
use Rattle.adb_block.specs.PositionBetweenBlocks.{PositionBetweenBlocks, first_block_position_of_schema_and_file}
use Rattle.adb_dump.specs.Dump.{dump_text}
use Rattle.adb_view.specs.ShapedPayload.{adb_of, shaped_value, table_of}
use Rattle.adb_dump.specs.adb_schema.Soundness.{root_value_of_payload, header_schema_if_root_table}
use Rattle.adb_view.specs.declared.shaped.Shaped.{Shaped}
use Rattle.adb_dump.specs.adb_schema.declared.read.ReadFault.{ReadFault}
use Rattle.adb_dump.specs.adb_schema.declared.read.ReadFault.TheVariants.{Bad}
use Rattle.adb_dump.specs.adb_schema.declared.read.TheConstants.{PACKAGE_WORD, INDEX_WORD, IDB_WORD, INTENT_WORD}
use Rattle.adb_view.specs.declared.tables.Which.{Which}
use Rattle.adb_view.specs.declared.tables.Which.TheVariants.{Package, Index, Idb, Intent}
use Rattle.adb_view.specs.Adb.{payload_of}
use Rattle.std.specs.Option.{option_map, option_or}
use Rattle.make_core.proofs.IndexReads.{operand_name}
use Rattle.command_core.specs.Named.{operand_file}
use Rattle.make_core.specs.make_info.Reads.{Reads}
use Rattle.outcome.specs.Commands.{reads_in}
use Rattle.outcome.specs.Dump.{adbdump, dump_outcome, text_outcome, dump_of, dump_by_schema_number_and_table_if_any, dump_of_first_block_unless_fault_of_blocks, dump_by_schema_unless_header_fault, payload_head_or_shape_fault, framing_fault_of_blocks, text_unless_fault}
use Rattle.outcome.specs.Outcome.{just_refusal, just_report}
use Rattle.pkg_core.specs.Whole.{table_of_schema}
use Rattle.report_core.specs.declared.refusal.Refusal.TheVariants.{FileMissing, FileBad}
use Rattle.command_core.specs.declared.operands.Operand.{Operand}
use Rattle.apk_front.specs.Containers.{IsDumpFault, IsAfterShapedFirstBlock, first_block_head_or_shape_fault}
use Rattle.apk_front.specs.Verdicts.{as_outcome}
use Rattle.apk_front.specs.declared.answer.Verdict.{Verdict}

-- ---- blocks

pub text_of_shaped : (which : Which) (r later : Reading) (shaped : Shaped) (text : List ℕ) → IsAfterShapedFirstBlock which (payload_of (adb_of shaped)) r later → None ≡ framing_fault_of_blocks later → table_of shaped ≡ which → text ≡ dump_text (table_of shaped) (shaped_value shaped) → dump_of_first_block_unless_fault_of_blocks which r ≡ Ok text
text_of_shaped which done later shaped text first framed table is = absurd first
text_of_shaped which (fault c) later shaped text first framed table is = absurd first
text_of_shaped which (more b at r) later shaped text first framed table is =
    let value : dump_text (table_of shaped) (shaped_value shaped) ≡ dump_text which (root_value_of_payload which b.payload) =
    ap (λ w. dump_text w (root_value_of_payload w (payload_of (adb_of shaped)))) table ∙ ap (λ p. dump_text which (root_value_of_payload which p)) first.0 in
    let tested : option_or (payload_head_or_shape_fault which b.payload) (framing_fault_of_blocks r) ≡ None =
    ap (λ f. option_or f (framing_fault_of_blocks r)) first.1 ∙ (ap framing_fault_of_blocks first.2 ∙ sym framed) in
    ap (λ f. text_unless_fault f (dump_text which (root_value_of_payload which b.payload))) tested ∙ ap Ok (sym (is ∙ value))

pub first_block_bad : (which : Which) (r : Reading) (c : Cause) → first_block_head_or_shape_fault which r ≡ Some c → dump_of_first_block_unless_fault_of_blocks which r ≡ Err c
first_block_bad which done c h = absurd (none-some c h)
first_block_bad which (fault d) c h = ap (λ f. text_unless_fault f (dump_text which (root_value_of_payload which []))) h
first_block_bad which (more b at r) c h = ap (λ f. text_unless_fault (option_or f (framing_fault_of_blocks r)) (dump_text which (root_value_of_payload which b.payload))) h

pub later_block_bad : (which : Which) (r later : Reading) (payload : List ℕ) (c : Cause) → IsAfterShapedFirstBlock which payload r later → Some c ≡ framing_fault_of_blocks later → dump_of_first_block_unless_fault_of_blocks which r ≡ Err c
later_block_bad which done later payload c first framed = absurd first
later_block_bad which (fault d) later payload c first framed = absurd first
later_block_bad which (more b at r) later payload c first framed =
    let tested : option_or (payload_head_or_shape_fault which b.payload) (framing_fault_of_blocks r) ≡ Some c =
    ap (λ f. option_or f (framing_fault_of_blocks r)) first.1 ∙ (ap framing_fault_of_blocks first.2 ∙ sym framed) in
    ap (λ f. text_unless_fault f (dump_text which (root_value_of_payload which b.payload))) tested

-- ---- the schema

pub root_known : (schema : ℕ) (which : Which) → table_of_schema schema ≡ Some which → is_some (header_schema_if_root_table which) ≡ true
root_known schema which h =
    elim (schema == PACKAGE_WORD) as (λ b. (if b then Some Package else if schema == INDEX_WORD then Some Index else if schema == IDB_WORD then Some Idb else if schema == INTENT_WORD then Some Intent else None) ≡ Some which → is_some (header_schema_if_root_table which) ≡ true) [
      | true ↦ λ (e : Some Package ≡ Some which). known Package e refl
      | false ↦ elim (schema == INDEX_WORD) as (λ b. (if b then Some Index else if schema == IDB_WORD then Some Idb else if schema == INTENT_WORD then Some Intent else None) ≡ Some which → is_some (header_schema_if_root_table which) ≡ true) [
        | true ↦ λ (e : Some Index ≡ Some which). known Index e refl
        | false ↦ elim (schema == IDB_WORD) as (λ b. (if b then Some Idb else if schema == INTENT_WORD then Some Intent else None) ≡ Some which → is_some (header_schema_if_root_table which) ≡ true) [
          | true ↦ λ (e : Some Idb ≡ Some which). known Idb e refl
          | false ↦ elim (schema == INTENT_WORD) as (λ b. (if b then Some Intent else None) ≡ Some which → is_some (header_schema_if_root_table which) ≡ true) [
            | true ↦ λ (e : Some Intent ≡ Some which). known Intent e refl
            | false ↦ λ (e : None ≡ Some which). absurd (none-some which e)
          ]
        ]
      ]
    ] h
  where
    known : (w : Which) → Some w ≡ Some which → is_some (header_schema_if_root_table w) ≡ true → is_some (header_schema_if_root_table which) ≡ true
    known w e k = subst (λ x. is_some (header_schema_if_root_table x) ≡ true) (same_Some w which e) k

pub dump_is : (file : List ℕ) (schema : ℕ) (s : PositionBetweenBlocks) (which : Which) (answer : Result (List ℕ) Cause) → schema_of_header file ≡ Ok schema → s ≡ first_block_position_of_schema_and_file schema file → table_of_schema schema ≡ Some which → dump_of_first_block_unless_fault_of_blocks which (block_stream_from s) ≡ answer → dump_of file ≡ answer
unfolding dump_of
dump_is file schema s which answer h at root is =
    ap (dump_by_schema_unless_header_fault file) h ∙ (ap (dump_by_schema_number_and_table_if_any schema (block_stream_from (first_block_position_of_schema_and_file schema file))) root ∙ (ap (λ t. dump_of_first_block_unless_fault_of_blocks which (block_stream_from t)) (sym at) ∙ is))

-- ---- the operand

pub one_of : (os : List Operand) (o : Operand) → length os ≡ 1 → slice_get os 0 ≡ Some o → os ≡ o ∷ []
one_of [] o n x = absurd (none-some o x)
one_of (p ∷ []) o n x = ap (λ q. q ∷ []) (same_Some p o x)
one_of (p ∷ (q ∷ os)) o n x = absurd (let two : suc (suc (length os)) ≡ 1 = n in omega arith)

pub dump_found : (old : List TreeState) (os : List Operand) (o : Operand) (name : List ℕ) (verdict : Verdict) (bytes : Option (List ℕ)) → length os ≡ 1 → slice_get os 0 ≡ Some o → option_map operand_file (slice_get os 0) ≡ Some name
    → ((files : Files) → as_outcome files verdict ≡ dump_outcome files o.place bytes) → IfObservable old (λ v. bytes ≡ files_of v name)
    → IfObservable old (λ v. as_outcome (files_of v) verdict ≡ adbdump (reads_in (files_of v)) (files_of v) os)
dump_found [] os o name verdict bytes n x named is found = tt
dump_found (v ∷ old) os o name verdict bytes n x named is found =
    is (files_of v)
    ∙ ap (dump_outcome (files_of v) o.place) (found ∙ ap (files_of v) (operand_name os 0 o name x named))
    ∙ ap (adbdump (reads_in (files_of v)) (files_of v)) (sym (one_of os o n x))

pub dump_read : (os : List Operand) (o : Operand) (verdict : Verdict) (bytes : Option (List ℕ)) → length os ≡ 1 → slice_get os 0 ≡ Some o
    → ((files : Files) → as_outcome files verdict ≡ dump_outcome files o.place bytes)
    → (read : Reads) × (as_outcome no_names verdict ≡ adbdump read no_names os)
dump_read os o verdict bytes n x is = (λ k name. bytes, is no_names ∙ ap (adbdump (λ k name. bytes) no_names) (sym (one_of os o n x)))

-- ---- what was found

pub dump_missing : (place : ℕ) (bytes : Option (List ℕ)) (verdict : Verdict) → bytes ≡ None → ((files : Files) → as_outcome files verdict ≡ just_refusal files (FileMissing place)) → (files : Files) → as_outcome files verdict ≡ dump_outcome files place bytes
dump_missing place bytes verdict is same_outcome files = same_outcome files ∙ ap (dump_outcome files place) (sym is)

pub dump_good : (place : ℕ) (bytes : Option (List ℕ)) (file text : List ℕ) (verdict : Verdict) → bytes ≡ Some file → dump_of file ≡ Ok text → ((files : Files) → as_outcome files verdict ≡ just_report files text) → (files : Files) → as_outcome files verdict ≡ dump_outcome files place bytes
dump_good place bytes file text verdict is good same_outcome files = same_outcome files ∙ (ap (text_outcome files place) (sym good) ∙ ap (dump_outcome files place) (sym is))

pub dump_bad : (place : ℕ) (bytes : Option (List ℕ)) (file view : List ℕ) (p q : Cause) (why : ReadFault) (verdict : Verdict) → bytes ≡ Some file → view ≡ file → p ≡ q → why ≡ Bad q → IsDumpFault why (dump_of view) → ((files : Files) → as_outcome files verdict ≡ just_refusal files (FileBad place p)) → (files : Files) → as_outcome files verdict ≡ dump_outcome files place bytes
dump_bad place bytes file view p q why verdict is at same bad of same_outcome files =
    let cause : dump_of view ≡ Err q = subst (λ (f : ReadFault). IsDumpFault f (dump_of view)) bad of in
    same_outcome files ∙ (ap (λ c. just_refusal files (FileBad place c)) same ∙ (ap (text_outcome files place) (sym cause ∙ ap dump_of at) ∙ ap (dump_outcome files place) (sym is)))
