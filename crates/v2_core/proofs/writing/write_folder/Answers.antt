use Rattle.std.proofs.Common.{OnOk, ◌≡◌, ap, map, refl, subst, ◌∙◌}
use Rattle.adb_view.specs.Plain.{none, more, blob_or_null, trimmed_object_or_null}
use Rattle.make_info.specs.adb_values.Drafts.{draft_with}
use Rattle.make_info.proofs.adb_values.Lists.{closed}
use Rattle.v2_core.specs.Database.{array_or_null_of_list, listed_access_value, listed_file_value, listed_folder_value}
use Rattle.v2_core.specs.Views.{access_view_if_any}
use Rattle.v2_core.proofs.writing.write_folder.Goals as goal

pub returns : goal.returns
returns c =
    let folder = c.folder.inside in
    let files = c.in_ok-write_files.ensures ∙ ap (λ fs. draft_with (array_or_null_of_list (map listed_file_value fs)) c.write_access.new.draft) c.deref.ensures.value in
    subst (λ f. OnOk c.close_object.result (c.close_object.new.self ≡ draft_with (listed_folder_value f) c.args.draft.now)) c.folder.view_is
    (closed trimmed_object_or_null (more (blob_or_null folder.name.now) (more (listed_access_value (access_view_if_any folder.access)) (more (array_or_null_of_list (map listed_file_value folder.files.items)) none))) c.args.draft.now _ _ c.close_object.result c.close_object.ensures.ok
    (rw (files, c.in_ok-write_access.ensures, c.in_ok-blob.ensures.ok, c.in_ok-open_list.ensures.ok) refl))
