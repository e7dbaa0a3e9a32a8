-- The files that are left are the same.
use Rattle.std.proofs.Common.{◌≡◌, ◌-◌}
use Rattle.adb_view.specs.Values.{entries_in, count_of}
use Rattle.adb_schema.specs.adb_fields.ListValue.{list_value}
use Rattle.pkg_core.specs.Opened.{files_left_in_walk}
use Rattle.pkg_core.proofs.walk.Walk.next.Given as goal

abbrev pub invariant-loop-self : goal.invariant-loop-self
invariant-loop-self l = (l.self.folders ≡ l.initial.self.folders) × (files_left_in_walk l.self ≡ files_left_in_walk l.initial.self)

abbrev pub decreases-loop-self : goal.decreases-loop-self
decreases-loop-self l = count_of (entries_in (list_value l.initial.self.folders)) - l.self.folder
