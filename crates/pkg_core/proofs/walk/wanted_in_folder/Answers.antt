-- The file in the folder at its position.
use Rattle.std.proofs.Common.{sym, ◌∙◌, arith}
use Rattle.adb_schema.specs.Views.{dir_value}
use Rattle.adb_schema.specs.adb_fields.ListValue.{list_value}
use Rattle.adb_schema.specs.adb_fields.Repeated.{list_of}
use Rattle.adb_view.specs.Values.{entries_in}
use Rattle.pkg_core.proofs.OneFile.{folder_before, folder_past, folder_there}
use Rattle.pkg_core.proofs.walk.wanted_in_folder.Goals as goal

pub returns-then-i-eq0 : goal.returns-then-i-eq0
returns-then-i-eq0 c = sym (folder_before c.args.folder c.args.file 1 (list_of (entries_in (list_value c.args.folders))) (grind arith))

pub returns-then-i-len : goal.returns-then-i-len
returns-then-i-len c = sym (folder_past c.args.folder c.args.file 1 (entries_in (list_value c.args.folders)) (grind arith))

pub returns : goal.returns
returns c =
    c.wanted_in.ensures
    ∙ sym (folder_there c.args.folder c.args.file (list_value c.args.folders) (dir_value c.get.result) (list_value c.files.result) (grind arith) (grind arith) c.get.ensures c.files.ensures)
