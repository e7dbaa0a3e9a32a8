use Rattle.std.proofs.Common.{◌≡◌, ℕ, List, refl}
use Rattle.adb_view.specs.Adb.{payload_of}
use Rattle.adb_view.specs.Plain.{Plain, Plains, none, more, blob_or_null, trimmed_object_or_null}
use Rattle.adb_view.specs.Values.{entry_at_index, text_in, value_at}
use Rattle.adb_view.specs.declared.tables.Which.TheVariants as Tables
use Rattle.adb_view.specs.declared.tables.Kind.TheVariants as Kinds
use Rattle.adb_values.specs.Drafts.{draft_with_all, draft_with_open_list}
use Rattle.adb_values.proofs.Lists.{closed_as, on_ok}
use Rattle.adb_copy.specs.Zeros.{without_zeros}
use Rattle.adb_copy.proofs.Entries.{scripts_written}
use Rattle.adb_copy.proofs.Known.{known_closed_object, known_opened}
use Rattle.adb_copy.proofs.Shapes.{value_shape}
use Rattle.adb_copy.proofs.entry.write_scripts.Goals as goal

pub write_field-requires-clause-known : goal.write_field-requires-clause-known
write_field-requires-clause-known c =
    known_opened (payload_of c.args.adb) c.args.known.now c.args.draft.now c.open_list.new.self c.requires.known c.in_ok-open_list.ensures.ok

pub returns : goal.returns
returns c =
    let p : List ℕ = payload_of c.args.adb in
    let v : Plain = value_at p (Kinds.Obj Tables.Scripts) c.args.scripts in
    let vs : Plains =
    more (blob_or_null (text_in (entry_at_index v 0))) (more (blob_or_null (text_in (entry_at_index v 1))) (more (blob_or_null (text_in (entry_at_index v 2))) (more (blob_or_null (text_in (entry_at_index v 3)))
    (more (blob_or_null (text_in (entry_at_index v 4))) (more (blob_or_null (text_in (entry_at_index v 5))) (more (blob_or_null (text_in (entry_at_index v 6))) none)))))) in
    let given : c.write_field-7.new.draft ≡ draft_with_all vs (draft_with_open_list c.args.draft.now) =
    rw (c.in_ok-write_field-7.ensures.text, c.in_ok-write_field-6.ensures.text, c.in_ok-write_field-5.ensures.text, c.in_ok-write_field-4.ensures.text, c.in_ok-write_field-3.ensures.text, c.in_ok-write_field-2.ensures.text, c.in_ok-write_field.ensures.text, c.in_ok-open_list.ensures.ok) refl in
    record {
      scripts =
          closed_as trimmed_object_or_null (without_zeros v) vs c.args.draft.now _ _ c.close_object.result
          (scripts_written v _ _ _ _ _ _ _ (value_shape c.values_have_their_shape.ensures.word p (Kinds.Obj Tables.Scripts) c.args.scripts) refl refl refl refl refl refl refl)
          c.close_object.ensures.ok given;
      known =
          on_ok _ _
          (λ closed. known_closed_object p c.write_field-7.new.self c.write_field-7.new.draft c.close_object.new.self c.in_ok-write_field-7.ensures.known vs c.args.draft.now given (closed vs c.args.draft.now given))
          c.close_object.result c.close_object.ensures.ok;
    }
