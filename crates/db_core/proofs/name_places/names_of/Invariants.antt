-- The names of the packages that are left are still to come.
use Rattle.std.proofs.Common.{map}
use Rattle.pkg_core.specs.adb_fields.ListValue.{list_value}
use Rattle.adb_view.specs.Values.{entries_in}
use Rattle.db_core.specs.NameSeen.{name_seen}
use Rattle.db_core.proofs.NamePlaces.{NamesLeft}
use Rattle.db_core.proofs.name_places.names_of.Given as goal

abbrev pub invariant-loop-i : goal.invariant-loop-i
invariant-loop-i l = NamesLeft (map name_seen l.names.items) (entries_in (list_value l.packages)) l.i
