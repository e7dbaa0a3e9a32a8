use Rattle.std.proofs.Common.{◌≡◌, ℕ, List, Ok, Err, Result, sym, subst, ap, ◌∙◌}
use Rattle.std.proofs.lemmas.Result.{err_from_is_err_and}
use Rattle.adb_values.specs.Drafts.{DraftState, empty_draft}
use Rattle.adb_values.specs.adb_write.Canonical.{ByteAndValueCounts}
use Rattle.adb_values.specs.adb_write.File.{file_of}
use Rattle.gen_core.specs.Generated.{IsGenFault, dumped_root, file_of_schema_and_payload_unless_too_large, generated_file, schema_word_or_zero}
use Rattle.gen_core.specs.Reads.{IsTextFault, table_and_draft_of_root}
use Rattle.gen_core.specs.declared.generate.GenFault.{GenFault}
use Rattle.gen_core.proofs.Reading.{handed_on}
use Rattle.gen_core.proofs.RootText.{RootOf, gen_fault, root_of_text, writer_fault}
use Rattle.gen_core.proofs.generate.gen_.Goals as goal

pub returns-in_err-which-clause-err : goal.returns-in_err-which-clause-err
returns-in_err-which-clause-err c =
    let t = c.args.text.now in
    let fault = c.in_err-which.field-0.0 in
    handed_on c.from_residual.result fault (λ (f : GenFault). IsGenFault f (generated_file t)) (err_from_is_err_and c.from_residual.result c.from_residual.ensures.1)
    (gen_fault t empty_draft fault (subst (λ (d : DraftState). IsTextFault fault (table_and_draft_of_root (dumped_root t) d)) c.new-draft.ensures c.in_err-which.ensures.err))

pub returns-in_ok-file_of-in-Ok-clause-ok : goal.returns-in_ok-file_of-in-Ok-clause-ok
returns-in_ok-file_of-in-Ok-clause-ok c =
    let t = c.args.text.now in
    let which = c.in_ok-which.which in
    let r : RootOf t which c.read_text.new.draft = root_of_text t which c.read_text.new.draft (subst (λ (d : DraftState). table_and_draft_of_root (dumped_root t) d ≡ Ok (which, c.read_text.new.draft)) c.new-draft.ensures c.in_ok-which.ensures.ok) in
    let bytes : file_of (schema_word_or_zero which) c.in-Ok.payload.items ≡ c.in_ok-file_of-in-Ok.field-0.items =
    ap (λ (word : ℕ). file_of word c.in-Ok.payload.items) (sym c.schema_word_or_zero.ensures) ∙ ap (file_of c.schema_word_or_zero.result) (sym c.deref.ensures.value) ∙ sym c.in_ok-file_of-in-Ok.ensures in
    r.file ∙ ap (file_of_schema_and_payload_unless_too_large (schema_word_or_zero which)) (c.in-Ok.ensures.written r.value r.draft) ∙ ap (λ (file : List ℕ). Ok file) bytes

pub returns-in-Err-clause-err : goal.returns-in-Err-clause-err
returns-in-Err-clause-err c =
    let t = c.args.text.now in
    let which = c.in_ok-which.which in
    let r : RootOf t which c.read_text.new.draft = root_of_text t which c.read_text.new.draft (subst (λ (d : DraftState). table_and_draft_of_root (dumped_root t) d ≡ Ok (which, c.read_text.new.draft)) c.new-draft.ensures c.in_ok-which.ensures.ok) in
    subst (λ (fault : GenFault). IsGenFault fault (generated_file t)) (sym c.fault_of_writer.ensures) (writer_fault t which c.read_text.new.draft c.in-Err.fault r (λ v e. c.in-Err.ensures.written v e))
