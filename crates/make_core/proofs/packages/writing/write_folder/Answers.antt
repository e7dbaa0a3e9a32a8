use Rattle.std.proofs.Common.{List, ap, map, refl, ◌∙◌}
use Rattle.adb_view.specs.Plain.{array_or_null, trimmed_object_or_null}
use Rattle.package_files.specs.adb_values.Drafts.{draft_with}
use Rattle.package_files.proofs.adb_values.Lists.{closed}
use Rattle.package_files.specs.make_info.Values.{plains_of_list}
use Rattle.package_files.specs.declared.file.File.{File}
use Rattle.package_files.specs.Package.{folder_fields}
use Rattle.package_files.specs.Packed.{packed_file}
use Rattle.make_core.proofs.packages.writing.write_folder.Goals as goal

pub returns : goal.returns
returns c =
    let files = c.in_ok-write_files.ensures ∙ ap (λ (fs : List File). draft_with (array_or_null (plains_of_list (map packed_file fs))) c.write_acl.new.draft) c.deref.ensures.value in
    closed trimmed_object_or_null (folder_fields c.args.folder.now.name.now (map packed_file c.args.folder.now.files.items)) c.args.draft.now _ _ c.close_object.result c.close_object.ensures.ok
    (rw (files, c.in_ok-write_acl.ensures, c.in_ok-blob.ensures.ok, c.in_ok-open_list.ensures.ok) refl)
