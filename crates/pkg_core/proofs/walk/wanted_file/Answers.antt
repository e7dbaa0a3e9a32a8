-- Among the folders of the package's value.
use Rattle.std.proofs.Common.{◌∙◌, ap}
use Rattle.adb_schema.specs.adb_fields.Repeated.{list_of}
use Rattle.adb_view.specs.Values.{entries_in}
use Rattle.adb_view.specs.Plain.{Plain}
use Rattle.pkg_core.specs.Contents.{expected_files_of_folders}
use Rattle.pkg_core.specs.Opened.{expected_file_at}
use Rattle.pkg_core.proofs.walk.wanted_file.Goals as goal

pub returns : goal.returns
returns c =
    c.wanted_in_folder.ensures
    ∙ ap (λ (v : Plain). expected_file_at c.args.folder c.args.file (expected_files_of_folders 1 (list_of (entries_in v)))) c.paths.ensures
