use Rattle.std.proofs.Common.{◌≡◌, ℕ, List, ap, refl, ◌∙◌}
use Rattle.adb_view.specs.Adb.{payload_of}
use Rattle.adb_view.specs.declared.tables.Kind.TheVariants as Kinds
use Rattle.adb_view.specs.declared.tables.Which.TheVariants as Tables
use Rattle.adb_view.specs.Plain.{Plain, Plains, none, more, blob_or_null, array_or_null, trimmed_object_or_null}
use Rattle.adb_copy.specs.adb_fields.Repeated.{files_in, list_of, name_of}
use Rattle.adb_view.specs.Values.{entries_in, entry_at_index, value_at}
use Rattle.adb_copy.specs.Zeros.{without_zeros}
use Rattle.adb_copy.proofs.Known.{known_closed_object, known_opened}
use Rattle.adb_copy.specs.adb_values.Drafts.{draft_with, draft_with_all, draft_with_open_list}
use Rattle.adb_copy.proofs.adb_values.Lists.{closed, on_ok}
use Rattle.db_core.specs.NewDatabase.{owned_entries_without_zeros}
use Rattle.db_core.proofs.folders.write_folder.Goals as goal

pub write_field-requires-clause-known : goal.write_field-requires-clause-known
write_field-requires-clause-known c =
    known_opened (payload_of c.args.adb) c.args.known.now c.args.draft.now c.open_list.new.self c.requires.known c.in_ok-open_list.ensures.ok

pub returns : goal.returns
returns c =
    let p : List ℕ = payload_of c.args.adb in
    let v : Plain = value_at p (Kinds.Obj Tables.Dir) c.args.folder in
    let vs : Plains = more (blob_or_null (name_of v)) (more (without_zeros (entry_at_index v 1)) (more (array_or_null (owned_entries_without_zeros (files_in v) c.args.flags.now)) none)) in
    let acl : c.write_acl.new.draft ≡ draft_with (without_zeros (entry_at_index v 1)) c.write_field.new.draft =
    c.in_ok-write_acl.ensures.acl ∙ ap (λ (u : Plain). draft_with (without_zeros u) c.write_field.new.draft) (c.field_word-acl.ensures (Kinds.Obj Tables.Acl) refl).1 in
    let files : c.write_files.new.draft ≡ draft_with (array_or_null (owned_entries_without_zeros (files_in v) c.args.flags.now)) c.write_acl.new.draft =
    c.in_ok-write_files.ensures.files ∙ ap (λ (u : Plain). draft_with (array_or_null (owned_entries_without_zeros (list_of (entries_in u)) c.args.flags.now)) c.write_acl.new.draft) c.objects_field-files.ensures.value in
    let given : c.write_files.new.draft ≡ draft_with_all vs (draft_with_open_list c.args.draft.now) =
    rw (files, acl, c.in_ok-write_field.ensures.text, c.in_ok-open_list.ensures.ok) refl in
    record {
      folder = closed trimmed_object_or_null vs c.args.draft.now _ _ c.close_object.result c.close_object.ensures.ok given;
      known =
          on_ok _ _ (λ closed. known_closed_object p c.write_files.new.known c.write_files.new.draft c.close_object.new.self c.in_ok-write_files.ensures.known vs c.args.draft.now given (closed vs c.args.draft.now given))
          c.close_object.result c.close_object.ensures.ok;
    }
