-- None so far lists the path: the rest decides.
use Rattle.pkg_core.specs.adb_fields.ListValue.{list_value}
use Rattle.adb_view.specs.Values.{entries_in}
use Rattle.db_core.specs.Packages.{lists_path}
use Rattle.db_core.proofs.Places.{IsLeft}
use Rattle.db_core.proofs.db.find_lister.Given as goal

abbrev pub invariant-loop-i : goal.invariant-loop-i
invariant-loop-i l = IsLeft (lists_path l.path) (entries_in (list_value l.packages)) l.i
