-- The names that are left are still to come.
use Rattle.std.proofs.Common.{◌≡◌, ◌++◌, map, drop}
use Rattle.report_core.specs.Reports.{with_spaces_before}
use Rattle.package_changes.proofs.stays.push_spaced.Given as goal

abbrev pub invariant-loop-name : goal.invariant-loop-name
invariant-loop-name l =
    l.report ++ with_spaces_before (map (λ n. n.now) (drop l.name-index l.names))
    ≡ l.initial.report ++ with_spaces_before (map (λ n. n.now) l.names)
