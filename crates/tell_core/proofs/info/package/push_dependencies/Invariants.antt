-- The lines of the entries that are left are still to be added.
use Rattle.std.proofs.Common.{◌≡◌, ◌++◌, drop}
use Rattle.candidate_core.specs.adb_fields.ListValue.{list_value}
use Rattle.candidate_core.specs.adb_fields.Repeated.{list_of}
use Rattle.adb_view.specs.Values.{entries_in}
use Rattle.tell_core.proofs.LineSteps.{dependency_lines}
use Rattle.tell_core.proofs.info.package.push_dependencies.Given as goal

abbrev pub invariant-loop-i : goal.invariant-loop-i
invariant-loop-i l =
    l.report.items ++ dependency_lines (drop l.i (list_of (entries_in (list_value l.depends))))
    ≡ l.fn.report.items ++ dependency_lines (list_of (entries_in (list_value l.depends)))
