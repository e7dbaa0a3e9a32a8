use Rattle.std.proofs.Common.{◌≡◌, ℕ, List, [], ◌∷◌, refl, ap, ◌∙◌}
use Rattle.adb_view.specs.Adb.{payload_of}
use Rattle.adb_view.specs.Plain.{Plain, Plains, trimmed_object_or_null}
use Rattle.adb_view.specs.Values.{entry_at_index, text_in, value_at}
use Rattle.adb_view.specs.declared.tables.Which.TheVariants as Tables
use Rattle.adb_view.specs.declared.tables.Kind.TheVariants as Kinds
use Rattle.adb_values.specs.Drafts.{draft_with, draft_with_all, draft_with_open_list}
use Rattle.adb_values.proofs.Lists.{closed_as, on_ok}
use Rattle.adb_copy.specs.Fields.{ints_or_nulls}
use Rattle.adb_copy.specs.Zeros.{info_without_zeros_with_id_and_file_size, int_or_null, without_zeros}
use Rattle.adb_copy.proofs.Known.{known_all, known_closed_object, known_more, known_opened}
use Rattle.adb_copy.proofs.Shapes.{value_shape}
use Rattle.adb_copy.proofs.Fields.{info_fields, info_written}
use Rattle.adb_copy.proofs.copy.write_info.Goals as goal

pub write_info_texts-requires-clause-known : goal.write_info_texts-requires-clause-known
write_info_texts-requires-clause-known c =
    known_opened (payload_of c.args.adb) c.args.known.now c.args.draft.now c.open_list.new.self c.requires.known c.in_ok-open_list.ensures.ok

pub write_deps-requires-clause-known : goal.write_deps-requires-clause-known
write_deps-requires-clause-known c =
    known_all (payload_of c.args.adb) c.write_info_texts.new.known
    (ints_or_nulls (c.int_field.result ∷ c.int_field-2.result ∷ c.args.len ∷ c.int_field-3.result ∷ []))
    c.write_info_texts.new.draft c.write_ints.new.draft c.in_ok-write_info_texts.ensures.known c.in_ok-write_ints.ensures

pub write_text_list-requires-clause-known : goal.write_text_list-requires-clause-known
write_text_list-requires-clause-known c =
    known_more (payload_of c.args.adb) c.write_deps-5.new.known c.write_deps-5.new.draft c.write_int.new.draft c.in_ok-write_deps-5.ensures.known (int_or_null c.int_field-4.result) c.in_ok-write_int.ensures

pub returns : goal.returns
returns c =
    let p : List ℕ = payload_of c.args.adb in
    let v : Plain = value_at p (Kinds.Obj Tables.PkgInfo) c.args.info in
    let vs : Plains =
    info_fields c.args.id.now c.args.len
    (text_in (entry_at_index v 0)) (text_in (entry_at_index v 1)) (text_in (entry_at_index v 3)) (text_in (entry_at_index v 4)) (text_in (entry_at_index v 5))
    (text_in (entry_at_index v 6)) (text_in (entry_at_index v 7)) (text_in (entry_at_index v 8)) (text_in (entry_at_index v 9))
    c.int_field.result c.int_field-2.result c.int_field-3.result
    (entry_at_index v 14) (entry_at_index v 15) (entry_at_index v 16) (entry_at_index v 17) (entry_at_index v 18)
    c.int_field-4.result (entry_at_index v 20) c.int_field-5.result in
    let tags : c.write_text_list.new.draft ≡ draft_with (without_zeros (entry_at_index v 20)) c.write_int.new.draft =
    c.in_ok-write_text_list.ensures.texts ∙ ap (λ (u : Plain). draft_with (without_zeros u) c.write_int.new.draft) c.texts_field.ensures.value in
    let given : c.write_int-2.new.draft ≡ draft_with_all vs (draft_with_open_list c.args.draft.now) =
    rw (c.in_ok-write_int-2.ensures, tags, c.in_ok-write_int.ensures, c.in_ok-write_deps-5.ensures.deps, c.in_ok-write_deps-4.ensures.deps, c.in_ok-write_deps-3.ensures.deps, c.in_ok-write_deps-2.ensures.deps, c.in_ok-write_deps.ensures.deps, c.in_ok-write_ints.ensures, c.in_ok-write_info_texts.ensures.texts, c.in_ok-open_list.ensures.ok) refl in
    let texts = c.write_text_list.new.known in
    record {
      info =
          closed_as trimmed_object_or_null (info_without_zeros_with_id_and_file_size v c.args.id.now c.args.len) vs c.args.draft.now _ _ c.close_object.result
          (info_written v c.args.id.now c.args.len (value_shape c.values_have_their_shape.ensures.word p (Kinds.Obj Tables.PkgInfo) c.args.info)
          (text_in (entry_at_index v 0)) (text_in (entry_at_index v 1)) (text_in (entry_at_index v 3)) (text_in (entry_at_index v 4)) (text_in (entry_at_index v 5))
          (text_in (entry_at_index v 6)) (text_in (entry_at_index v 7)) (text_in (entry_at_index v 8)) (text_in (entry_at_index v 9))
          c.int_field.result c.int_field-2.result c.int_field-3.result
          (entry_at_index v 14) (entry_at_index v 15) (entry_at_index v 16) (entry_at_index v 17) (entry_at_index v 18)
          c.int_field-4.result (entry_at_index v 20) c.int_field-5.result
          refl refl refl refl refl refl refl refl refl
          c.int_field.ensures c.int_field-2.ensures c.int_field-3.ensures
          refl refl refl refl refl
          c.int_field-4.ensures refl c.int_field-5.ensures)
          c.close_object.ensures.ok given;
      known =
          on_ok _ _
          (λ closed. known_closed_object p texts c.write_int-2.new.draft c.close_object.new.self
          (known_more p texts c.write_text_list.new.draft c.write_int-2.new.draft c.in_ok-write_text_list.ensures.known (int_or_null c.int_field-5.result) c.in_ok-write_int-2.ensures)
          vs c.args.draft.now given (closed vs c.args.draft.now given))
          c.close_object.result c.close_object.ensures.ok;
    }
