use Rattle.std.proofs.Common.{◌≡◌, refl}
use Rattle.adb_view.specs.Adb.{payload_of}
use Rattle.adb_view.specs.Plain.{Plain, Plains, none, more, blob_or_null, trimmed_object_or_null}
use Rattle.adb_view.specs.Values.{entry_at_index, text_in, value_at}
use Rattle.adb_view.specs.declared.tables.Which.TheVariants as Tables
use Rattle.adb_view.specs.declared.tables.Kind.TheVariants as Kinds
use Rattle.adb_values.specs.Drafts.{draft_with_all, draft_with_open_list}
use Rattle.adb_values.proofs.Lists.{closed_as, on_ok}
use Rattle.adb_copy.specs.Zeros.{int_or_null, without_zeros}
use Rattle.adb_copy.proofs.Fields.{dep_written}
use Rattle.adb_copy.proofs.Known.{known_closed_object, known_more, known_opened}
use Rattle.adb_copy.proofs.Shapes.{value_shape}
use Rattle.adb_copy.proofs.copy.write_dep.Goals as goal

pub write_field-requires-clause-known : goal.write_field-requires-clause-known
write_field-requires-clause-known c = known_opened (payload_of c.args.adb) c.args.known.now c.args.draft.now c.open_list.new.self c.requires.known c.in_ok-open_list.ensures.ok

pub returns-clause-dep : goal.returns-clause-dep
returns-clause-dep c =
    let v : Plain = value_at (payload_of c.args.adb) (Kinds.Obj Tables.Dep) c.args.dep in
    closed_as trimmed_object_or_null (without_zeros v) (more (blob_or_null (text_in (entry_at_index v 0))) (more (blob_or_null (text_in (entry_at_index v 1))) (more (int_or_null c.int_field.result) none))) c.args.draft.now _ _ c.close_object.result
    (dep_written v _ _ _ (value_shape c.values_have_their_shape.ensures.word (payload_of c.args.adb) (Kinds.Obj Tables.Dep) c.args.dep) refl refl c.int_field.ensures)
    c.close_object.ensures.ok
    (rw (c.in_ok-write_int.ensures, c.in_ok-write_field-2.ensures.text, c.in_ok-write_field.ensures.text, c.in_ok-open_list.ensures.ok) refl)

pub returns-clause-known : goal.returns-clause-known
returns-clause-known c =
    let p = payload_of c.args.adb in
    let v : Plain = value_at p (Kinds.Obj Tables.Dep) c.args.dep in
    let vs : Plains = more (blob_or_null (text_in (entry_at_index v 0))) (more (blob_or_null (text_in (entry_at_index v 1))) (more (int_or_null c.int_field.result) none)) in
    let given : c.write_int.new.draft ≡ draft_with_all vs (draft_with_open_list c.args.draft.now) =
    rw (c.in_ok-write_int.ensures, c.in_ok-write_field-2.ensures.text, c.in_ok-write_field.ensures.text, c.in_ok-open_list.ensures.ok) refl in
    on_ok _ _
    (λ closed. known_closed_object p c.write_field-2.new.self c.write_int.new.draft c.close_object.new.self
    (known_more p c.write_field-2.new.self c.write_field-2.new.draft c.write_int.new.draft c.in_ok-write_field-2.ensures.known (int_or_null c.int_field.result) c.in_ok-write_int.ensures)
    vs c.args.draft.now given (closed vs c.args.draft.now given))
    c.close_object.result c.close_object.ensures.ok
