-- The lines of the names that are left are still to come.
use Rattle.std.proofs.Common.{◌≡◌, ◌++◌, map, drop}
use Rattle.report_core.specs.Reports.{report_lines}
use Rattle.tell_core.proofs.info.names.push_lines.Given as goal

abbrev pub invariant-loop-i : goal.invariant-loop-i
invariant-loop-i l =
    l.report.items ++ report_lines (map (λ n. n.now) (drop l.i l.names)) ≡ l.fn.report.items ++ report_lines (map (λ n. n.now) l.names)
