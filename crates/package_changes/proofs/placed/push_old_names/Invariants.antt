-- The names of the packages that are left are still to come.
use Rattle.std.proofs.Common.{◌≡◌, ◌++◌, map, drop}
use Rattle.own_core.specs.adb_fields.Repeated.{package_name}
use Rattle.own_core.specs.db_core.Seen.{packages_of}
use Rattle.package_changes.proofs.placed.push_old_names.Given as goal

abbrev pub invariant-loop-i : goal.invariant-loop-i
invariant-loop-i l =
    map (λ n. n.now) l.names.items ++ map package_name (drop l.i (packages_of l.db))
    ≡ map (λ n. n.now) l.initial.names.items ++ map package_name (packages_of l.db)
