-- What `adbdump` answers.
use Rattle.std.proofs.Common.{◌≡◌, ◌∙◌, ℕ, Bool, true, false, List, [], ◌∷◌, length, Option, Some, None, Result, Ok, Err, refl, ap, sym, subst}
use Rattle.std.specs.Prelude.{if◌then◌else◌, nat_lt}
use Rattle.std.specs.Option.{option_or}
use Rattle.adb_block.specs.Header.{schema_of_header}
use Rattle.adb_block.specs.Reading.{Reading, done, fault, more, block_stream_from}
use Rattle.adb_block.specs.PositionBetweenBlocks.{first_block_position_of_schema_and_file}
use Rattle.adb_block.specs.declared.block.BlockKind.{BlockKind}
use Rattle.adb_block.specs.declared.block.BlockKind.TheVariants as Kinds
use Rattle.outcome.specs.adb_dump.Dump.{dump_text}
use Rattle.pkg_core.specs.adb_schema.Soundness.{truncated_or_unexpected_contents_fault, folder_and_file_positions_from_payload, first_block_payload, remaining_blocks_fault, payload_by_header_schema_or_fault, payload_in, root_value_of_payload}
use Rattle.adb_view.specs.Head.{root_word_of_payload}
use Rattle.adb_view.specs.Plain.{Plain}
use Rattle.adb_view.specs.Schema.{shape_of}
use Rattle.adb_view.specs.Walk.{shape_fault}
use Rattle.adb_view.specs.declared.tables.Kind.TheVariants.{Obj}
use Rattle.adb_view.specs.declared.tables.Which.{Which}
use Rattle.adb_view.specs.declared.tables.Which.TheVariants as Tables
use Rattle.base_core.specs.Files.{Files}
use Rattle.base_core.specs.declared.cause.Cause.{Cause}
use Rattle.base_core.specs.declared.cause.Cause.TheVariants.{DataOrder, Truncated}
use Rattle.base_core.proofs.Causes.{both_none}
use Rattle.command_core.specs.Files.{without_one_leading_dot_slash}
use Rattle.command_core.specs.declared.operands.Operand.{Operand}
use Rattle.definition_laws.specs.containers.TestsInOrder.{PassesEveryContainerTest}
use Rattle.outcome.specs.make_info.Reads.{Reads}
use Rattle.outcome.specs.Dump.{adbdump, dump_fault_of_blocks, dump_of, dump_of_first_block_unless_fault_of_blocks, dump_outcome, dump_by_schema_number_and_table_if_any, dump_by_schema_unless_header_fault, framing_fault_of_blocks, text_unless_fault, text_outcome}
use Rattle.pkg_core.specs.Contents.{ExpectedFile, POSITIONS_LEN, contents_block_fault_at_offset, expected_files_of_package, fault_of_files_read, files_from_block_at_offset_if_contents, files_read_from_blocks, files_or_fault_alone, with_contents_of_next}
use Rattle.pkg_core.specs.Whole.{fault_of_contents_blocks_by_root_table, table_of_schema}
use Rattle.report_core.specs.declared.refusal.Refusal.TheVariants.{FileBad, FileMissing}
use Rattle.definition_laws.specs.outcomes.DumpedFiles.{HasDumpTextByHeaderSchema}

-- ---- the printed text

told_text : (which : Which) (r : Reading) (text : List ℕ) → dump_of_first_block_unless_fault_of_blocks which r ≡ Ok text → text ≡ dump_text which (root_value_of_payload which (first_block_payload r))
told_text which r text e = go (dump_fault_of_blocks which r) e
  where
    go : (o : Option Cause) → text_unless_fault o (dump_text which (root_value_of_payload which (first_block_payload r))) ≡ Ok text → text ≡ dump_text which (root_value_of_payload which (first_block_payload r))
    go None e = let same : dump_text which (root_value_of_payload which (first_block_payload r)) ≡ text = cc in sym same
    go (Some c) e = absurd cc

text_by_root : (file text : List ℕ) (schema : ℕ) (root : Option Which) → schema_of_header file ≡ Ok schema → table_of_schema schema ≡ root → dump_by_schema_number_and_table_if_any schema (block_stream_from (first_block_position_of_schema_and_file schema file)) root ≡ Ok text → HasDumpTextByHeaderSchema file text
unfolding payload_in
text_by_root file text schema None header root e = absurd cc
text_by_root file text schema (Some which) header root e =
    record {
      schema = schema;
      header = header;
      which = which;
      root = root;
      text_is = told_text which (block_stream_from (first_block_position_of_schema_and_file schema file)) text e
          ∙ ap (λ (o : Result ℕ Cause). dump_text which (root_value_of_payload which (payload_by_header_schema_or_fault file o))) (sym header);
    }

text_by_header : (file text : List ℕ) (h : Result ℕ Cause) → schema_of_header file ≡ h → dump_by_schema_unless_header_fault file h ≡ Ok text → HasDumpTextByHeaderSchema file text
text_by_header file text (Err c) header e = absurd cc
text_by_header file text (Ok schema) header e = text_by_root file text schema (table_of_schema schema) header refl e

text_of : (file text : List ℕ) → dump_of file ≡ Ok text → HasDumpTextByHeaderSchema file text
unfolding dump_of
text_of file text e = text_by_header file text (schema_of_header file) refl e

pub text_printed : (read : Reads) (files : Files) (o : Operand) (file : List ℕ) → read 0 (without_one_leading_dot_slash o.text) ≡ Some file
    → (adbdump read files (o ∷ [])).refusal ≡ None → HasDumpTextByHeaderSchema file (adbdump read files (o ∷ [])).out
text_printed read files o file found e = go (dump_of file) refl
  where
    go : (r : Result (List ℕ) Cause) → dump_of file ≡ r → HasDumpTextByHeaderSchema file (dump_outcome files o.place (read 0 (without_one_leading_dot_slash o.text))).out
    go (Ok text) is =
        subst (HasDumpTextByHeaderSchema file)
        (sym (ap (λ (f : Option (List ℕ)). (dump_outcome files o.place f).out) found ∙ ap (λ (r : Result (List ℕ) Cause). (text_outcome files o.place r).out) is))
        (text_of file text is)
    go (Err cause) is =
        let refused : Some (FileBad o.place cause) ≡ None = sym (ap (λ (f : Option (List ℕ)). (dump_outcome files o.place f).refusal) found ∙ ap (λ (r : Result (List ℕ) Cause). (text_outcome files o.place r).refusal) is) ∙ e in
        absurd cc

-- ---- the framing of the blocks

framed_further : (r : Reading) → remaining_blocks_fault r ≡ None → framing_fault_of_blocks r ≡ None
unfolding remaining_blocks_fault
framed_further done e = refl
framed_further (fault c) e = absurd cc
framed_further (more b at r) e = framed_further r (both_none (truncated_or_unexpected_contents_fault b.kind b.payload at) (remaining_blocks_fault r) e).1

never_none : {A : Type 0} (b : Bool) (x y : A) → (if b then Some x else Some y) ≡ None → ⊥
never_none true x y e = absurd cc
never_none false x y e = absurd cc

framed_contents : (es : List ExpectedFile) (r : Reading) → fault_of_files_read (files_read_from_blocks es r) ≡ None → framing_fault_of_blocks r ≡ None
unfolding files_read_from_blocks
framed_contents es done e = refl
framed_contents es (fault c) e = absurd cc
framed_contents es (more b at r) e = by_kind b.kind e (λ left. framed_contents left r)
  where
    by_fault : (o : Option Cause) (left : List ExpectedFile) → contents_block_fault_at_offset b.payload at left ≡ o → fault_of_files_read (files_or_fault_alone o (with_contents_of_next b.payload (λ rest. files_read_from_blocks rest r) left)) ≡ None
        → ((rest : List ExpectedFile) → fault_of_files_read (files_read_from_blocks rest r) ≡ None → framing_fault_of_blocks r ≡ None) → framing_fault_of_blocks r ≡ None
    by_fault (Some c) left is e further = absurd cc
    by_fault None [] is e further = absurd (never_none (nat_lt (length b.payload) POSITIONS_LEN) (Truncated at) (DataOrder (0, 0) (folder_and_file_positions_from_payload b.payload)) is)
    by_fault None (x ∷ xs) is e further = further xs e

    by_kind : (k : BlockKind) → fault_of_files_read (files_from_block_at_offset_if_contents k b.payload at (λ left. files_read_from_blocks left r) es) ≡ None
        → ((rest : List ExpectedFile) → fault_of_files_read (files_read_from_blocks rest r) ≡ None → framing_fault_of_blocks r ≡ None) → framing_fault_of_blocks r ≡ None
    by_kind Kinds.Contents e further = by_fault (contents_block_fault_at_offset b.payload at es) es refl e further
    by_kind Kinds.Adb e further = further es e
    by_kind Kinds.Signature e further = further es e

framed : (which : Which) (value : Plain) (r : Reading) → fault_of_contents_blocks_by_root_table which value r ≡ None → framing_fault_of_blocks r ≡ None
framed Tables.Package value r e = framed_contents (expected_files_of_package value) r e
framed Tables.Dep value r e = framed_further r e
framed Tables.Acl value r e = framed_further r e
framed Tables.PkgInfo value r e = framed_further r e
framed Tables.File value r e = framed_further r e
framed Tables.Dir value r e = framed_further r e
framed Tables.Scripts value r e = framed_further r e
framed Tables.Index value r e = framed_further r e
framed Tables.Idb value r e = framed_further r e
framed Tables.Intent value r e = framed_further r e

-- ---- what passes every test is printed

dumped : (file : List ℕ) → PassesEveryContainerTest file → (text : List ℕ) × (dump_of file ≡ Ok text)
unfolding dump_of
dumped file p =
    let r : Reading = more p.first p.at p.behind in
    let value : Plain = root_value_of_payload p.which p.first.payload in
    let text : List ℕ = dump_text p.which value in
    let good : dump_fault_of_blocks p.which r ≡ None =
    ap (λ (o : Option Cause). option_or (option_or o (shape_fault p.first.payload (shape_of (Obj p.which)) (root_word_of_payload p.first.payload))) (framing_fault_of_blocks p.behind)) (p.each 0 _ refl)
    ∙ ap (λ (o : Option Cause). option_or o (framing_fault_of_blocks p.behind)) (p.each 1 _ refl)
    ∙ framed p.which value p.behind (p.each 4 _ refl) in (
      text,
      ap (dump_by_schema_unless_header_fault file) p.header
          ∙ ap (dump_by_schema_number_and_table_if_any p.schema (block_stream_from (first_block_position_of_schema_and_file p.schema file))) p.root
          ∙ ap (dump_of_first_block_unless_fault_of_blocks p.which) p.blocks
          ∙ ap (λ (o : Option Cause). text_unless_fault o text) good,
    )

pub sound_dumped : (read : Reads) (files : Files) (o : Operand) (file : List ℕ) → read 0 (without_one_leading_dot_slash o.text) ≡ Some file → PassesEveryContainerTest file
    → (adbdump read files (o ∷ [])).refusal ≡ None
sound_dumped read files o file found p =
    ap (λ (f : Option (List ℕ)). (dump_outcome files o.place f).refusal) found
    ∙ ap (λ (r : Result (List ℕ) Cause). (text_outcome files o.place r).refusal) (dumped file p).1

pub absent_refused : (read : Reads) (files : Files) (o : Operand) → read 0 (without_one_leading_dot_slash o.text) ≡ None → (adbdump read files (o ∷ [])).refusal ≡ Some (FileMissing o.place)
absent_refused read files o found = ap (λ (f : Option (List ℕ)). (dump_outcome files o.place f).refusal) found
