-- The names of the packages that are left are still to come.
use Rattle.std.proofs.Common.{◌≡◌, ◌++◌, map, drop}
use Rattle.candidate_core.specs.adb_fields.Repeated.{package_name}
use Rattle.file_owners.specs.db_core.Seen.{packages_of}
use Rattle.tell_core.proofs.info.names.names_of.Given as goal

abbrev pub invariant-loop-i : goal.invariant-loop-i
invariant-loop-i l =
    map (λ n. n.now) l.names.items ++ map package_name (drop l.i (packages_of l.db)) ≡ map package_name (packages_of l.db)
