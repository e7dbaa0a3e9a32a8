-- The lines of the changes that are left are still to come.
use Rattle.std.proofs.Common.{◌≡◌, ◌+◌, ◌++◌, map, drop}
use Rattle.report_core.specs.Reports.{change_lines_from}
use Rattle.package_changes.specs.Placed.{PlacedChange}
use Rattle.package_changes.specs.Seen.{changes_seen}
use Rattle.package_changes.proofs.report.push_change_lines.Given as goal

abbrev pub invariant-loop-i : goal.invariant-loop-i
invariant-loop-i l =
    l.report ++ change_lines_from (l.i + 1) l.count (drop l.i (map (λ (c : PlacedChange). c.change) (changes_seen l.changes)))
    ≡ l.initial.report ++ change_lines_from 1 l.count (map (λ (c : PlacedChange). c.change) (changes_seen l.changes))
