use Rattle.std.proofs.Common.{◌∙◌, arith, sym}
use Rattle.std.specs.Prelude.{bytes_eq}
use Rattle.std.specs.List.{list_any}
use Rattle.pkg_core.specs.adb_fields.ListValue.{list_value}
use Rattle.pkg_core.specs.adb_fields.Repeated.{list_of, paths_of_folder_files}
use Rattle.adb_view.specs.Values.{entries_in}
use Rattle.db_core.proofs.AnyOf.{any_flat, any_found, any_next, any_none}
use Rattle.db_core.proofs.listed_paths.is_path_listed.Goals as goal

pub loop-i-preserved : goal.loop-i-preserved
loop-i-preserved c =
    any_next (λ folder. list_any (bytes_eq c.args.path.now) (paths_of_folder_files folder)) (entries_in (list_value c.args.folders.now)) c.loop-i.i c.is_path_in_folder.result
    (omega (arith, c.len-i-end.ensures.value, c.loop-i-test.true)) c.is_path_in_folder.ensures c.if-is_path_in_folder.false c.loop-i.invariant

pub returns-then-is_path_in_folder : goal.returns-then-is_path_in_folder
returns-then-is_path_in_folder c =
    any_found (λ folder. list_any (bytes_eq c.args.path.now) (paths_of_folder_files folder)) (entries_in (list_value c.args.folders.now)) c.loop-i.i c.is_path_in_folder.result
    (omega (arith, c.len-i-end.ensures.value, c.loop-i-test.true)) c.is_path_in_folder.ensures c.if-is_path_in_folder.true c.loop-i.invariant
    ∙ sym (any_flat (bytes_eq c.args.path.now) paths_of_folder_files (list_of (entries_in (list_value c.args.folders.now))))

pub returns : goal.returns
returns c =
    any_none (λ folder. list_any (bytes_eq c.args.path.now) (paths_of_folder_files folder)) (entries_in (list_value c.args.folders.now)) c.loop-i.i
    (omega (arith, c.len-i-end.ensures.value, c.loop-i-test.false, c.loop-i.auto.i-end)) c.loop-i.invariant
    ∙ sym (any_flat (bytes_eq c.args.path.now) paths_of_folder_files (list_of (entries_in (list_value c.args.folders.now))))
