-- The lines of the names that are left are still to come.
use Rattle.std.proofs.Common.{◌≡◌, ◌++◌, map, drop}
use Rattle.std.specs.List.{filter, flat_map}
use Rattle.own_core.specs.db_core.Seen.{packages_of}
use Rattle.package_changes.specs.Placed.{candidates_at}
use Rattle.package_changes.specs.Report.{lines_on_name_that_stays, was_installed}
use Rattle.package_changes.proofs.stays.push_lines_of_names.Given as goal

abbrev pub invariant-loop-name : goal.invariant-loop-name
invariant-loop-name l =
    l.report ++ flat_map (lines_on_name_that_stays (candidates_at l.pool l.trace)) (filter (was_installed (packages_of l.db)) (map (λ n. n.now) (drop l.name-index l.names)))
    ≡ l.initial.report ++ flat_map (lines_on_name_that_stays (candidates_at l.pool l.trace)) (filter (was_installed (packages_of l.db)) (map (λ n. n.now) l.names))
