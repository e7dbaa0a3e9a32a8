-- Why `adbdump` refuses a file.
use Rattle.std.proofs.Common.{ℕ, ◌≡◌, ◌↔◌, inl, inr, ◌∙◌, zero, suc, ◌<◌, true, List, [], ◌∷◌, Option, Some, None, Result, Ok, Err, refl, ap, sym, arith}
use Rattle.std.specs.Prelude.{is_some, slice_get}
use Rattle.std.specs.Option.{option_or}
use Rattle.adb_block.specs.Header.{schema_of_header}
use Rattle.adb_block.specs.Reading.{Reading, done, fault, more, block_stream_from}
use Rattle.adb_block.specs.PositionBetweenBlocks.{first_block_position_of_schema_and_file}
use Rattle.adb_view.specs.Head.{payload_head_fault, root_word_of_payload}
use Rattle.adb_view.specs.Schema.{shape_of}
use Rattle.adb_view.specs.Walk.{shape_fault}
use Rattle.adb_view.specs.declared.tables.Kind.TheVariants.{Obj}
use Rattle.adb_view.specs.declared.tables.Which.{Which}
use Rattle.base_core.specs.Files.{Files}
use Rattle.base_core.specs.declared.cause.Cause.{Cause}
use Rattle.base_core.specs.declared.cause.Cause.TheVariants.{WrongSchema}
use Rattle.command_core.specs.Files.{without_one_leading_dot_slash}
use Rattle.command_core.specs.declared.operands.Operand.{Operand}
use Rattle.definition_laws.specs.containers.TestsInOrder.{IsFirstFailing}
use Rattle.pkg_core.specs.adb_schema.Soundness.{first_block_payload, root_value_of_payload}
use Rattle.pkg_core.specs.Whole.{table_of_schema}
use Rattle.outcome.specs.Dump.{adbdump, dump_fault_of_blocks, dump_of, dump_outcome, dump_by_schema_number_and_table_if_any, dump_by_schema_unless_header_fault, framing_fault_of_blocks, text_unless_fault, text_outcome}
use Rattle.outcome.specs.adb_dump.Dump.{dump_text}
use Rattle.outcome.specs.make_info.Reads.{Reads}
use Rattle.definition_laws.specs.outcomes.DumpedFiles.{IsDumpRefusalCause, IsFaultOfPrinted}
use Rattle.report_core.specs.declared.refusal.Refusal.{Refusal}
use Rattle.report_core.specs.declared.refusal.Refusal.TheVariants.{FileBad}

-- ---- three tests, one after the other

first_of : (a b d : Option Cause) (c : Cause) → option_or (option_or a b) d ≡ Some c → IsFirstFailing (a ∷ (b ∷ (d ∷ []))) c
first_of (Some x) b d c e =
    let same : x ≡ c = cc (e) in
    record { place = 0; fails = ap (λ (y : Cause). Some (Some y)) same; before = λ j lt. absurd (omega arith) }
first_of None (Some x) d c e =
    let same : x ≡ c = cc (e) in
    record { place = 1; fails = ap (λ (y : Cause). Some (Some y)) same; before = before_second }
  where
    before_second : (j : ℕ) → j < 1 → slice_get (None ∷ (Some x ∷ (d ∷ []))) j ≡ Some None
    before_second zero lt = refl
    before_second (suc j) lt = absurd (omega arith)
first_of None None (Some x) c e =
    let same : x ≡ c = cc (e) in
    record { place = 2; fails = ap (λ (y : Cause). Some (Some y)) same; before = before_third }
  where
    before_third : (j : ℕ) → j < 2 → slice_get (None ∷ (None ∷ (Some x ∷ []))) j ≡ Some None
    before_third zero lt = refl
    before_third (suc zero) lt = refl
    before_third (suc (suc j)) lt = absurd (omega arith)
first_of None None None c e = absurd (cc (e))

failing : (a b d : Option Cause) (c : Cause) → IsFirstFailing (a ∷ (b ∷ (d ∷ []))) c → option_or (option_or a b) d ≡ Some c
failing a b d c f = go f.place f.fails f.before
  where
    go : (p : ℕ) → slice_get (a ∷ (b ∷ (d ∷ []))) p ≡ Some (Some c) → ((j : ℕ) → j < p → slice_get (a ∷ (b ∷ (d ∷ []))) j ≡ Some None)
        → option_or (option_or a b) d ≡ Some c
    go zero is before =
        let first : a ≡ Some c = cc (is) in
        ap (λ (o : Option Cause). option_or (option_or o b) d) first
    go (suc zero) is before =
        let earlier = before 0 (omega arith) in
        let first : a ≡ None = cc (earlier) in
        let second : b ≡ Some c = cc (is) in
        ap (λ (o : Option Cause). option_or (option_or o b) d) first ∙ ap (λ (o : Option Cause). option_or o d) second
    go (suc (suc zero)) is before =
        let earlier = before 0 (omega arith) in
        let later = before 1 (omega arith) in
        let first : a ≡ None = cc (earlier) in
        let second : b ≡ None = cc (later) in
        let third : d ≡ Some c = cc (is) in
        ap (λ (o : Option Cause). option_or (option_or o b) d) first ∙ ap (λ (o : Option Cause). option_or o d) second ∙ third
    go (suc (suc (suc p))) is before = absurd (cc (is))

-- ---- the blocks

blocks_told : (which : Which) (r : Reading) (c : Cause) → dump_fault_of_blocks which r ≡ Some c → IsFaultOfPrinted which r c
blocks_told which done c e = absurd (cc (e))
blocks_told which (fault d) c e = let same : d ≡ c = cc (e) in inl (ap fault same)
blocks_told which (more b at r) c e =
    inr (b, at, r, refl, first_of (payload_head_fault b.payload) (shape_fault b.payload (shape_of (Obj which)) (root_word_of_payload b.payload)) (framing_fault_of_blocks r) c e)

blocks_refused : (which : Which) (r : Reading) (c : Cause) → IsFaultOfPrinted which r c → dump_fault_of_blocks which r ≡ Some c
blocks_refused which r c f =
    elim f [
      | inl e ↦ ap (dump_fault_of_blocks which) e
      | inr f ↦
          let (b, at, behind, e, first) = f in
          ap (dump_fault_of_blocks which) e
          ∙ failing (payload_head_fault b.payload) (shape_fault b.payload (shape_of (Obj which)) (root_word_of_payload b.payload)) (framing_fault_of_blocks behind) c first
    ]

-- ---- the file

no_text : (o : Option Cause) (text : List ℕ) (c : Cause) → text_unless_fault o text ≡ Err c → o ≡ Some c
no_text None text c e = absurd (cc (e))
no_text (Some d) text c e = let same : d ≡ c = cc (e) in ap Some same

by_root : (file : List ℕ) (c : Cause) (schema : ℕ) (root : Option Which) → schema_of_header file ≡ Ok schema → table_of_schema schema ≡ root
    → dump_by_schema_number_and_table_if_any schema (block_stream_from (first_block_position_of_schema_and_file schema file)) root ≡ Err c → IsDumpRefusalCause file c
by_root file c schema None header root e =
    let same : WrongSchema schema ≡ c = cc (e) in
    inr (schema, header, inl (root, sym same))
by_root file c schema (Some which) header root e =
    let r = block_stream_from (first_block_position_of_schema_and_file schema file) in
    inr (schema, header, inr (which, root, blocks_told which r c (no_text (dump_fault_of_blocks which r) (dump_text which (root_value_of_payload which (first_block_payload r))) c e)))

by_header : (file : List ℕ) (c : Cause) (h : Result ℕ Cause) → schema_of_header file ≡ h → dump_by_schema_unless_header_fault file h ≡ Err c → IsDumpRefusalCause file c
by_header file c (Err d) header e =
    let same : d ≡ c = cc (e) in
    inl (header ∙ ap Err same)
by_header file c (Ok schema) header e = by_root file c schema (table_of_schema schema) header refl e

fault_told : (file : List ℕ) (c : Cause) → dump_of file ≡ Err c → IsDumpRefusalCause file c
unfolding dump_of
fault_told file c e = by_header file c (schema_of_header file) refl e

file_refused : (file : List ℕ) (c : Cause) → IsDumpRefusalCause file c → dump_of file ≡ Err c
unfolding dump_of
file_refused file c f =
    elim f [
      | inl e ↦ ap (dump_by_schema_unless_header_fault file) e
      | inr f ↦
          let (schema, header, rest) = f in
          ap (dump_by_schema_unless_header_fault file) header
          ∙ elim rest [
            | inl x ↦ ap (dump_by_schema_number_and_table_if_any schema (block_stream_from (first_block_position_of_schema_and_file schema file))) x.0 ∙ ap Err (sym x.1)
            | inr x ↦
                let (which, root, blocks) = x in
                let r = block_stream_from (first_block_position_of_schema_and_file schema file) in
                ap (dump_by_schema_number_and_table_if_any schema r) root
                ∙ ap (λ (o : Option Cause). text_unless_fault o (dump_text which (root_value_of_payload which (first_block_payload r)))) (blocks_refused which r c blocks)
          ]
    ]

-- ---- the outcome

refused_by : (files : Files) (place : ℕ) (r : Result (List ℕ) Cause) (c : Cause) → (text_outcome files place r).refusal ≡ Some (FileBad place c) → r ≡ Err c
refused_by files place (Ok text) c e = absurd (cc (e))
refused_by files place (Err d) c e = let same : d ≡ c = cc (e) in ap Err same

of_found : (read : Reads) (files : Files) (o : Operand) (file : List ℕ) → read 0 (without_one_leading_dot_slash o.text) ≡ Some file
    → (adbdump read files (o ∷ [])).refusal ≡ (text_outcome files o.place (dump_of file)).refusal
of_found read files o file found = ap (λ (f : Option (List ℕ)). (dump_outcome files o.place f).refusal) found

pub fault_refused : (read : Reads) (files : Files) (o : Operand) (file : List ℕ) (c : Cause) → read 0 (without_one_leading_dot_slash o.text) ≡ Some file
    → ((adbdump read files (o ∷ [])).refusal ≡ Some (FileBad o.place c)) ↔ IsDumpRefusalCause file c
fault_refused read files o file c found =
    let same = of_found read files o file found in (
      λ e. fault_told file c (refused_by files o.place (dump_of file) c (sym same ∙ e)),
      λ f. same ∙ ap (λ (r : Result (List ℕ) Cause). (text_outcome files o.place r).refusal) (file_refused file c f),
    )

cause_of : (files : Files) (place : ℕ) (r : Result (List ℕ) Cause) (refusal : Refusal) → (text_outcome files place r).refusal ≡ Some refusal
    → (c : Cause) × (refusal ≡ FileBad place c)
cause_of files place (Ok text) refusal e = absurd (cc (e))
cause_of files place (Err d) refusal e = let same : FileBad place d ≡ refusal = cc (e) in (d, sym same)

pub only_faults : (read : Reads) (files : Files) (o : Operand) (file : List ℕ) (refusal : Refusal) → read 0 (without_one_leading_dot_slash o.text) ≡ Some file
    → (adbdump read files (o ∷ [])).refusal ≡ Some refusal → (c : Cause) × (refusal ≡ FileBad o.place c)
only_faults read files o file refusal found e =
    cause_of files o.place (dump_of file) refusal (sym (of_found read files o file found) ∙ e)

silent_by : (files : Files) (place : ℕ) (r : Result (List ℕ) Cause) → is_some (text_outcome files place r).refusal ≡ true → (text_outcome files place r).out ≡ []
silent_by files place (Ok text) e = absurd (cc (e))
silent_by files place (Err d) e = refl

silent_found : (files : Files) (place : ℕ) (f : Option (List ℕ)) → is_some (dump_outcome files place f).refusal ≡ true → (dump_outcome files place f).out ≡ []
silent_found files place None e = refl
silent_found files place (Some file) e = silent_by files place (dump_of file) e

pub refused_silently : (read : Reads) (files : Files) (o : Operand) → is_some (adbdump read files (o ∷ [])).refusal ≡ true → (adbdump read files (o ∷ [])).out ≡ []
refused_silently read files o e = silent_found files o.place (read 0 (without_one_leading_dot_slash o.text)) e

same_by : (files : Files) (place : ℕ) (r : Result (List ℕ) Cause) → (text_outcome files place r).files ≡ files
same_by files place (Ok text) = refl
same_by files place (Err d) = refl

same_found : (files : Files) (place : ℕ) (f : Option (List ℕ)) → (dump_outcome files place f).files ≡ files
same_found files place None = refl
same_found files place (Some file) = same_by files place (dump_of file)

pub files_kept : (read : Reads) (files : Files) (o : Operand) → (adbdump read files (o ∷ [])).files ≡ files
files_kept read files o = same_found files o.place (read 0 (without_one_leading_dot_slash o.text))
