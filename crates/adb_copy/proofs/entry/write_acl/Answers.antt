use Rattle.std.proofs.Common.{◌≡◌, List, ℕ, refl, ap, ◌∙◌}
use Rattle.adb_view.specs.Adb.{payload_of}
use Rattle.adb_view.specs.Plain.{Plain, Plains, none, more, blob_or_null, trimmed_object_or_null}
use Rattle.adb_view.specs.Values.{entry_at_index, text_in, value_at}
use Rattle.adb_view.specs.declared.tables.Which.TheVariants as Tables
use Rattle.adb_view.specs.declared.tables.Kind.TheVariants as Kinds
use Rattle.adb_values.specs.Drafts.{draft_with, draft_with_all, draft_with_open_list}
use Rattle.adb_values.proofs.Lists.{closed_as, on_ok}
use Rattle.adb_copy.specs.Zeros.{int_or_null, without_zeros}
use Rattle.adb_copy.proofs.Known.{known_closed_object, known_more, known_opened}
use Rattle.adb_copy.proofs.Shapes.{value_shape}
use Rattle.adb_copy.proofs.Entries.{acl_written}
use Rattle.adb_copy.proofs.entry.write_acl.Goals as goal

pub write_field-requires-clause-known : goal.write_field-requires-clause-known
write_field-requires-clause-known c =
    let p : List ℕ = payload_of c.args.adb in
    known_more p c.args.known.now c.open_list.new.self c.write_int.new.draft
    (known_opened p c.args.known.now c.args.draft.now c.open_list.new.self c.requires.known c.in_ok-open_list.ensures.ok) (int_or_null c.int_field.result) c.in_ok-write_int.ensures

pub returns : goal.returns
returns c =
    let p : List ℕ = payload_of c.args.adb in
    let v : Plain = value_at p (Kinds.Obj Tables.Acl) c.args.acl in
    let vs : Plains = more (int_or_null c.int_field.result) (more (blob_or_null (text_in (entry_at_index v 1))) (more (blob_or_null (text_in (entry_at_index v 2))) (more (without_zeros (entry_at_index v 3)) none))) in
    let xattrs : c.write_text_list.new.draft ≡ draft_with (without_zeros (entry_at_index v 3)) c.write_field-2.new.draft =
    c.in_ok-write_text_list.ensures.texts ∙ ap (λ (u : Plain). draft_with (without_zeros u) c.write_field-2.new.draft) c.texts_field.ensures.value in
    let given : c.write_text_list.new.draft ≡ draft_with_all vs (draft_with_open_list c.args.draft.now) =
    rw (xattrs, c.in_ok-write_field-2.ensures.text, c.in_ok-write_field.ensures.text, c.in_ok-write_int.ensures, c.in_ok-open_list.ensures.ok) refl in
    record {
      acl =
          closed_as trimmed_object_or_null (without_zeros v) vs c.args.draft.now _ _ c.close_object.result
          (acl_written v _ _ _ _ (value_shape c.values_have_their_shape.ensures.word p (Kinds.Obj Tables.Acl) c.args.acl) c.int_field.ensures refl refl refl) c.close_object.ensures.ok given;
      known =
          on_ok _ _ (λ closed. known_closed_object p c.write_text_list.new.known c.write_text_list.new.draft c.close_object.new.self c.in_ok-write_text_list.ensures.known vs c.args.draft.now given (closed vs c.args.draft.now given))
          c.close_object.result c.close_object.ensures.ok;
    }
