-- The changes of the names that are left are still to come.
use Rattle.std.proofs.Common.{◌≡◌, ◌++◌, map, drop}
use Rattle.std.specs.List.{filter_map}
use Rattle.package_changes.specs.Placed.{change_in}
use Rattle.package_changes.specs.Seen.{placed_change_seen, placed_name_seen}
use Rattle.package_changes.proofs.changes.Changes.of_names.Given as goal

abbrev pub invariant-loop-name : goal.invariant-loop-name
invariant-loop-name l =
    map placed_change_seen l.list.items
    ++ filter_map change_in (map placed_name_seen (drop l.name-index l.names.list.items))
    ≡ filter_map change_in (map placed_name_seen l.names.list.items)
