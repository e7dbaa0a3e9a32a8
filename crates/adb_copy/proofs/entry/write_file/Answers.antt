use Rattle.std.proofs.Common.{◌≡◌, List, ℕ, refl, ap, ◌∙◌}
use Rattle.adb_view.specs.Adb.{payload_of}
use Rattle.adb_view.specs.Plain.{Plain, Plains, none, more, blob_or_null, trimmed_object_or_null}
use Rattle.adb_view.specs.Values.{entry_at_index, text_in, value_at}
use Rattle.adb_view.specs.declared.tables.Which.TheVariants as Tables
use Rattle.adb_view.specs.declared.tables.Kind.TheVariants as Kinds
use Rattle.adb_values.specs.Drafts.{draft_with, draft_with_all, draft_with_open_list}
use Rattle.adb_values.proofs.Lists.{closed_as, on_ok}
use Rattle.adb_copy.specs.Zeros.{int_or_null, without_zeros}
use Rattle.adb_copy.proofs.Known.{known_closed_object, known_more, known_opened}
use Rattle.adb_copy.proofs.Shapes.{value_shape}
use Rattle.adb_copy.proofs.Entries.{file_written}
use Rattle.adb_copy.proofs.entry.write_file.Goals as goal

pub write_field-requires-clause-known : goal.write_field-requires-clause-known
write_field-requires-clause-known c =
    known_opened (payload_of c.args.adb) c.args.known.now c.args.draft.now c.open_list.new.self c.requires.known c.in_ok-open_list.ensures.ok

pub write_field-requires-2-clause-known : goal.write_field-requires-2-clause-known
write_field-requires-2-clause-known c =
    let p : List ℕ = payload_of c.args.adb in
    let texts = c.write_acl.new.known in
    known_more p texts c.write_int-2.new.draft c.blob.new.self
    (known_more p texts c.write_int.new.draft c.write_int-2.new.draft
    (known_more p texts c.write_acl.new.draft c.write_int.new.draft c.in_ok-write_acl.ensures.known (int_or_null c.int_field.result) c.in_ok-write_int.ensures)
    (int_or_null c.int_field-2.result) c.in_ok-write_int-2.ensures)
    (blob_or_null c.hash_field.result.now) c.in_ok-blob.ensures.ok

pub returns : goal.returns
returns c =
    let p : List ℕ = payload_of c.args.adb in
    let v : Plain = value_at p (Kinds.Obj Tables.File) c.args.file in
    let vs : Plains = more (blob_or_null (text_in (entry_at_index v 0))) (more (without_zeros (entry_at_index v 1)) (more (int_or_null c.int_field.result) (more (int_or_null c.int_field-2.result)
    (more (blob_or_null c.hash_field.result.now) (more (blob_or_null (text_in (entry_at_index v 5))) (more (int_or_null c.int_field-3.result) none)))))) in
    let acl : c.write_acl.new.draft ≡ draft_with (without_zeros (entry_at_index v 1)) c.write_field.new.draft =
    c.in_ok-write_acl.ensures.acl ∙ ap (λ (u : Plain). draft_with (without_zeros u) c.write_field.new.draft) (c.field_word.ensures (Kinds.Obj Tables.Acl) refl).1 in
    let given : c.write_int-3.new.draft ≡ draft_with_all vs (draft_with_open_list c.args.draft.now) =
    rw (c.in_ok-write_int-3.ensures, c.in_ok-write_field-2.ensures.text, c.in_ok-blob.ensures.ok, c.in_ok-write_int-2.ensures, c.in_ok-write_int.ensures, acl, c.in_ok-write_field.ensures.text, c.in_ok-open_list.ensures.ok) refl in
    let texts = c.write_field-2.new.self in
    record {
      file =
          closed_as trimmed_object_or_null (without_zeros v) vs c.args.draft.now _ _ c.close_object.result
          (file_written v _ _ _ _ _ _ _ (value_shape c.values_have_their_shape.ensures.word p (Kinds.Obj Tables.File) c.args.file) refl refl c.int_field.ensures c.int_field-2.ensures c.hash_field.ensures refl c.int_field-3.ensures)
          c.close_object.ensures.ok given;
      known =
          on_ok _ _
          (λ closed. known_closed_object p texts c.write_int-3.new.draft c.close_object.new.self
          (known_more p texts c.write_field-2.new.draft c.write_int-3.new.draft c.in_ok-write_field-2.ensures.known (int_or_null c.int_field-3.result) c.in_ok-write_int-3.ensures)
          vs c.args.draft.now given (closed vs c.args.draft.now given))
          c.close_object.result c.close_object.ensures.ok;
    }
