use Rattle.std.proofs.Common.{OnOk, ◌≡◌, ap, map, refl, subst, ◌∙◌}
use Rattle.adb_view.specs.Plain.{null, none, more, trimmed_object_or_null}
use Rattle.make_info.specs.adb_values.Drafts.{draft_with}
use Rattle.make_info.proofs.adb_values.Lists.{closed}
use Rattle.v2_core.specs.declared.field.InfoField.TheVariants as Fields
use Rattle.v2_core.specs.Database.{array_or_null_of_list, listed_folder_value, record_info_value, record_value, value_of_single_line_field}
use Rattle.v2_core.proofs.writing.write_package.Goals as goal

pub returns : goal.returns
returns c =
    let inside = c.text_record.inside in
    let info = c.in_ok-write_info.ensures ∙ ap (λ ls. draft_with (record_info_value ls) c.open_list.new.self) c.deref.ensures.value in
    let paths = c.in_ok-write_folders.ensures ∙ ap (λ fs. draft_with (array_or_null_of_list (map listed_folder_value fs)) c.write_info.new.draft) c.deref-2.ensures.value in
    let priority = c.in_ok-write_once.ensures ∙ ap (λ ls. draft_with (value_of_single_line_field Fields.ReplacesPriority ls) c.null-2.new.self) c.deref-3.ensures.value in
    subst (λ r. OnOk c.close_object.result (c.close_object.new.self ≡ draft_with (record_value r) c.args.draft.now)) c.text_record.view_is
    (closed trimmed_object_or_null (more (record_info_value inside.info.items) (more (array_or_null_of_list (map listed_folder_value inside.folders.items)) (more null (more null (more (value_of_single_line_field Fields.ReplacesPriority inside.info.items) none))))) c.args.draft.now _ _ c.close_object.result c.close_object.ensures.ok
    (rw (priority, c.in_ok-null-2.ensures.ok, c.in_ok-null.ensures.ok, paths, info, c.in_ok-open_list.ensures.ok) refl))
