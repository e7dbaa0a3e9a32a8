use Rattle.std.proofs.Common.{arith}
use Rattle.std.specs.Prelude.{bytes_eq}
use Rattle.pkg_core.specs.adb_fields.ListValue.{list_value}
use Rattle.pkg_core.specs.adb_fields.Paths.{path_of}
use Rattle.pkg_core.specs.adb_fields.Repeated.{name_of}
use Rattle.adb_view.specs.Values.{entries_in}
use Rattle.db_core.proofs.AnyOf.{any_found, any_next, any_none}
use Rattle.db_core.proofs.listed_paths.is_path_of_any.Goals as goal

pub loop-i-preserved : goal.loop-i-preserved
loop-i-preserved c =
    any_next (λ file. bytes_eq c.args.path.now (path_of c.args.folder.now (name_of file))) (entries_in (list_value c.args.files.now)) c.loop-i.i c.is_path_of_file.result
    (omega (arith, c.len-i-end.ensures.value, c.loop-i-test.true)) c.is_path_of_file.ensures c.if-is_path_of_file.false c.loop-i.invariant

pub returns-then-is_path_of_file : goal.returns-then-is_path_of_file
returns-then-is_path_of_file c =
    any_found (λ file. bytes_eq c.args.path.now (path_of c.args.folder.now (name_of file))) (entries_in (list_value c.args.files.now)) c.loop-i.i c.is_path_of_file.result
    (omega (arith, c.len-i-end.ensures.value, c.loop-i-test.true)) c.is_path_of_file.ensures c.if-is_path_of_file.true c.loop-i.invariant

pub returns : goal.returns
returns c =
    any_none (λ file. bytes_eq c.args.path.now (path_of c.args.folder.now (name_of file))) (entries_in (list_value c.args.files.now)) c.loop-i.i
    (omega (arith, c.len-i-end.ensures.value, c.loop-i-test.false, c.loop-i.auto.i-end)) c.loop-i.invariant
