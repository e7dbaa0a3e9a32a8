-- What becomes of the names that are left is still to come.
use Rattle.std.proofs.Common.{◌≡◌, ◌++◌, map, drop}
use Rattle.own_core.specs.db_core.Seen.{packages_of}
use Rattle.package_changes.specs.Seen.{placed_name_seen}
use Rattle.package_changes.specs.SelectedNames.{name_with_change_and_places_by_table}
use Rattle.package_changes.proofs.placed.placed_names.Given as goal

abbrev pub invariant-loop-name : goal.invariant-loop-name
invariant-loop-name l =
    map placed_name_seen l.list.items
    ++ map (name_with_change_and_places_by_table (packages_of l.db) l.pool l.again l.selected) (map (λ n. n.now) (drop l.name-index l.names))
    ≡ map (name_with_change_and_places_by_table (packages_of l.db) l.pool l.again l.selected) (map (λ n. n.now) l.names)
