use Rattle.std.proofs.Common.{◌≡◌, ◌≤◌, length}
use Rattle.adb_schema.specs.adb_fields.ListValue.{list_value}
use Rattle.adb_view.specs.Values.{entries_in}
use Rattle.candidate_core.proofs.DependencyLists.{dependencies_to}
use Rattle.candidate_core.proofs.dependencies.count_sound.Given as goal

abbrev pub invariant-loop-i : goal.invariant-loop-i
invariant-loop-i l = (l.count ≡ length (dependencies_to l.i (entries_in (list_value l.list)))) × (l.count ≤ l.i)
