use Rattle.std.proofs.Common.{◌≡◌, ◌∙◌, ℕ, List, ap, refl, sym}
use Rattle.adb_view.specs.Adb.{payload_of}
use Rattle.adb_view.specs.Plain.{Plain, Plains, none, more, array_or_null, trimmed_object_or_null}
use Rattle.adb_copy.specs.adb_fields.Repeated.{folders_in}
use Rattle.adb_view.specs.Values.{entry_at_index, value_at}
use Rattle.adb_view.specs.declared.tables.Kind.TheVariants as Kinds
use Rattle.adb_view.specs.declared.tables.Which.TheVariants as Tables
use Rattle.adb_copy.specs.Zeros.{int_or_null, without_zeros}
use Rattle.adb_copy.proofs.Known.{known_closed_object, known_more, known_opened}
use Rattle.adb_copy.specs.adb_values.Drafts.{draft_with, draft_with_all, draft_with_open_list}
use Rattle.adb_copy.proofs.adb_values.Lists.{closed_as, on_ok}
use Rattle.db_core.specs.NewDatabase.{folders_in_new_database, info_in_new_database, package_in_new_database}
use Rattle.db_core.proofs.packages.write_package.Goals as goal

pub write_member_info-requires-clause-known : goal.write_member_info-requires-clause-known
write_member_info-requires-clause-known c =
    known_opened (payload_of c.args.adb) c.args.known.now c.args.draft.now c.open_list.new.self c.requires.known c.in_ok-open_list.ensures.ok

pub returns : goal.returns
returns c =
    let p : List ℕ = payload_of c.args.adb in
    let v : Plain = value_at p (Kinds.Obj Tables.Package) c.args.pkg in
    let priority = c.int_field-priority.ensures in
    let vs : Plains =
    more (info_in_new_database c.args.id (entry_at_index v 0)) (more (array_or_null (folders_in_new_database (folders_in v) c.args.flags.now))
    (more (without_zeros (entry_at_index v 2)) (more (without_zeros (entry_at_index v 3)) (more (int_or_null c.int_field-priority.result) none)))) in
    let scripts : c.write_scripts.new.draft ≡ draft_with (without_zeros (entry_at_index v 2)) c.write_folders.new.draft =
    c.in_ok-write_scripts.ensures.scripts ∙ ap (λ (u : Plain). draft_with (without_zeros u) c.write_folders.new.draft) (c.field_word-scripts.ensures (Kinds.Obj Tables.Scripts) refl).1 in
    let triggers : c.write_text_list.new.draft ≡ draft_with (without_zeros (entry_at_index v 3)) c.write_scripts.new.draft =
    c.in_ok-write_text_list.ensures.texts ∙ ap (λ (u : Plain). draft_with (without_zeros u) c.write_scripts.new.draft) c.texts_field-triggers.ensures.value in
    let given : c.write_int.new.draft ≡ draft_with_all vs (draft_with_open_list c.args.draft.now) =
    rw (c.in_ok-write_int.ensures, triggers, scripts, c.in_ok-write_folders.ensures.folders, c.in_ok-write_member_info.ensures.info, c.in_ok-open_list.ensures.ok) refl in
    let texts = c.write_text_list.new.known in
    record {
      value =
          closed_as trimmed_object_or_null (package_in_new_database (record { pkg = v; id = c.args.id }) c.args.flags.now) vs c.args.draft.now _ _ c.close_object.result
          (sym (λ j. trimmed_object_or_null (more (info_in_new_database c.args.id (entry_at_index v 0)) (more (array_or_null (folders_in_new_database (folders_in v) c.args.flags.now))
          (more (without_zeros (entry_at_index v 2)) (more (without_zeros (entry_at_index v 3)) (more (int_or_null (priority j)) none)))))))
          c.close_object.ensures.ok given;
      known =
          on_ok _ _
          (λ closed. known_closed_object p texts c.write_int.new.draft c.close_object.new.self
          (known_more p texts c.write_text_list.new.draft c.write_int.new.draft c.in_ok-write_text_list.ensures.known (int_or_null c.int_field-priority.result) c.in_ok-write_int.ensures)
          vs c.args.draft.now given (closed vs c.args.draft.now given))
          c.close_object.result c.close_object.ensures.ok;
    }
