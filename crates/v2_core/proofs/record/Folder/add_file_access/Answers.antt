use Rattle.std.proofs.Common.{◌∙◌, ap}
use Rattle.v2_core.specs.Records.{file_with_access, listed_folder_from_parts, folder_with_files, folder_with_last_file_changed, list_with_last_changed}
use Rattle.v2_core.specs.Views.{access_view_if_any}
use Rattle.v2_core.specs.Accesses.{access_view}
use Rattle.v2_core.proofs.LastElement.{made_of}
use Rattle.v2_core.proofs.record.Folder.add_file_access.Goals as goal

pub returns : goal.returns
returns c =
    let folder = listed_folder_from_parts c.self.inside.name.now (access_view_if_any c.self.inside.access) c.self.inside.files.items in
    made_of (folder_with_files folder) c.add_access_to_last.result c.add_access_to_last.new.files.items (list_with_last_changed (file_with_access (access_view c.args.access)) c.self.inside.files.items) c.add_access_to_last.ensures
    ∙ ap (folder_with_last_file_changed (file_with_access (access_view c.args.access))) c.self.view_is
