use Rattle.std.proofs.Common.{◌≡◌, ◌∙◌, ℕ, List, refl, ap}
use Rattle.std.specs.Prelude.{unwrap_or}
use Rattle.adb_view.specs.Adb.{payload_of}
use Rattle.adb_view.specs.Plain.{Plain}
use Rattle.adb_view.specs.Values.{entry_at_index, int_in, text_in, value_at}
use Rattle.adb_view.specs.declared.tables.Kind.TheVariants as Kinds
use Rattle.adb_view.specs.declared.tables.Which.TheVariants as Tables
use Rattle.adb_copy.specs.adb_values.Drafts.{draft_with}
use Rattle.adb_copy.proofs.adb_values.Lists.{on_ok}
use Rattle.adb_copy.specs.Zeros.{info_without_zeros_with_id_and_file_size}
use Rattle.db_core.proofs.packages.write_member_info.Goals as goal

pub returns-clause-info : goal.returns-clause-info
returns-clause-info c =
    let p : List ℕ = payload_of c.args.adb in
    let info : Plain = entry_at_index (value_at p (Kinds.Obj Tables.Package) c.args.pkg) 0 in
    let value : value_at p (Kinds.Obj Tables.PkgInfo) c.field_word-info.result ≡ info = (c.field_word-info.ensures (Kinds.Obj Tables.PkgInfo) refl).1 in
    let hash : c.hash_after.result.now ≡ unwrap_or c.args.id (text_in (entry_at_index info 2)) =
    c.hash_after.ensures ∙ ap (λ (b : List ℕ). unwrap_or c.args.id b) (c.hash_field-own.ensures ∙ ap (λ (v : Plain). text_in (entry_at_index v 2)) value) in
    let len : c.int_field-len.result ≡ int_in (entry_at_index info 12) = c.int_field-len.ensures ∙ ap (λ (v : Plain). int_in (entry_at_index v 12)) value in
    on_ok _ _ (λ e. e ∙ (λ j. draft_with (info_without_zeros_with_id_and_file_size (value j) (hash j) (len j)) c.args.draft.now)) c.write_info.result c.write_info.ensures.info
