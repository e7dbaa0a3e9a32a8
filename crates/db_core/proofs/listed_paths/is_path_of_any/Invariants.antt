-- No file so far has the path: the rest decides.
use Rattle.std.specs.Prelude.{bytes_eq}
use Rattle.pkg_core.specs.adb_fields.ListValue.{list_value}
use Rattle.pkg_core.specs.adb_fields.Paths.{path_of}
use Rattle.pkg_core.specs.adb_fields.Repeated.{name_of}
use Rattle.adb_view.specs.Values.{entries_in}
use Rattle.db_core.proofs.AnyOf.{IsRest}
use Rattle.db_core.proofs.listed_paths.is_path_of_any.Given as goal

abbrev pub invariant-loop-i : goal.invariant-loop-i
invariant-loop-i l = IsRest (λ file. bytes_eq l.path (path_of l.folder (name_of file))) (entries_in (list_value l.files)) l.i
