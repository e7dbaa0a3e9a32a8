use Rattle.std.proofs.Common.{◌≡◌, ℕ, List, refl, ◌∙◌}
use Rattle.adb_view.specs.Adb.{payload_of}
use Rattle.adb_view.specs.Plain.{Plain, blob_or_null, plains_of_texts}
use Rattle.adb_view.specs.Values.{value_at}
use Rattle.adb_view.specs.declared.tables.Which.TheVariants as Tables
use Rattle.adb_view.specs.declared.tables.Kind.TheVariants as Kinds
use Rattle.adb_values.specs.Drafts.{draft_with, draft_with_all}
use Rattle.adb_values.proofs.Lists.{on_ok}
use Rattle.adb_copy.specs.Fields.{info_texts}
use Rattle.adb_copy.proofs.Known.{known_more}
use Rattle.adb_copy.proofs.copy.write_info_texts.Goals as goal

pub write_field-requires-3-clause-known : goal.write_field-requires-3-clause-known
write_field-requires-3-clause-known c =
    known_more (payload_of c.args.adb) c.write_field-2.new.self c.write_field-2.new.draft c.blob.new.self c.in_ok-write_field-2.ensures.known (blob_or_null c.args.id.now) c.in_ok-blob.ensures.ok

pub returns : goal.returns
returns c =
    let p : List ℕ = payload_of c.args.adb in
    let v : Plain = value_at p (Kinds.Obj Tables.PkgInfo) c.args.info in
    let before : draft_with (blob_or_null c.hash_field.result.now) c.write_field-8.new.draft ≡ draft_with_all (plains_of_texts (info_texts v c.args.id.now)) c.args.draft.now =
    rw (c.hash_field.ensures, c.in_ok-write_field-8.ensures.text, c.in_ok-write_field-7.ensures.text, c.in_ok-write_field-6.ensures.text, c.in_ok-write_field-5.ensures.text, c.in_ok-write_field-4.ensures.text, c.in_ok-write_field-3.ensures.text, c.in_ok-blob.ensures.ok, c.in_ok-write_field-2.ensures.text, c.in_ok-write_field.ensures.text) refl in
    record {
      texts = on_ok _ _ (λ e. e ∙ before) c.blob-2.result c.blob-2.ensures.ok;
      known =
          on_ok _ _ (λ e. known_more p c.write_field-8.new.self c.write_field-8.new.draft c.blob-2.new.self c.in_ok-write_field-8.ensures.known (blob_or_null c.hash_field.result.now) e)
          c.blob-2.result c.blob-2.ensures.ok;
    }
