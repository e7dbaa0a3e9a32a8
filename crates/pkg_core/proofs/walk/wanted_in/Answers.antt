-- The file at its position in the folder.
use Rattle.std.proofs.Common.{sym, ◌∙◌, arith}
use Rattle.adb_schema.specs.Views.{file_value}
use Rattle.adb_schema.specs.adb_fields.ListValue.{list_value}
use Rattle.adb_view.specs.Values.{entries_in}
use Rattle.pkg_core.proofs.OneFile.{file_before, file_past, file_there, no_file_there}
use Rattle.pkg_core.proofs.walk.wanted_in.Goals as goal

pub returns-then-i-eq0 : goal.returns-then-i-eq0
returns-then-i-eq0 c = sym (file_before c.args.folder c.args.file 1 (entries_in (list_value c.args.files)) (grind arith))

pub returns-then-i-len : goal.returns-then-i-len
returns-then-i-len c = sym (file_past c.args.folder c.args.file 1 (entries_in (list_value c.args.files)) (grind arith))

pub returns-then-not-has_contents : goal.returns-then-not-has_contents
returns-then-not-has_contents c =
    sym (no_file_there c.args.folder c.args.file (list_value c.args.files) (file_value c.get-found.result) (grind arith) (grind arith) c.get-found.ensures (sym c.has_contents.ensures ∙ grind arith))

pub returns : goal.returns
returns c =
    sym (file_there c.args.folder c.args.file (list_value c.args.files) (file_value c.get-found.result) c.size.result c.hashes.result.now (grind arith) (grind arith) c.get-found.ensures (sym c.has_contents.ensures ∙ grind arith) c.size.ensures c.hashes.ensures)
