use Rattle.std.proofs.Common.{◌≡◌, take}
use Rattle.db_core.specs.Seen.{members_of, packages_of_old_database, packages_of}
use Rattle.change_outcome.specs.Arrivals.{members_by_packages_before_and_reads}
use Rattle.change_outcome.proofs.arrivals.members_of_change.Given as goal

abbrev pub invariant-loop-read : goal.invariant-loop-read
invariant-loop-read l = record {
  read : members_of l.members ≡ members_by_packages_before_and_reads (packages_of l.db) (take l.read-index l.read-items);
  before : packages_of_old_database l.members ≡ packages_of l.db;
}
