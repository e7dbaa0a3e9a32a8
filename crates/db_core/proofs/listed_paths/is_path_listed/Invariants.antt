-- No folder so far lists the path: the rest decides.
use Rattle.std.specs.Prelude.{bytes_eq}
use Rattle.std.specs.List.{list_any}
use Rattle.pkg_core.specs.adb_fields.ListValue.{list_value}
use Rattle.pkg_core.specs.adb_fields.Repeated.{paths_of_folder_files}
use Rattle.adb_view.specs.Values.{entries_in}
use Rattle.db_core.proofs.AnyOf.{IsRest}
use Rattle.db_core.proofs.listed_paths.is_path_listed.Given as goal

abbrev pub invariant-loop-i : goal.invariant-loop-i
invariant-loop-i l = IsRest (λ folder. list_any (bytes_eq l.path) (paths_of_folder_files folder)) (entries_in (list_value l.folders)) l.i
