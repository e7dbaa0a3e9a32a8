use Rattle.std.proofs.Common.{◌≡◌, ◌<◌, ℕ}
use Rattle.std.specs.Prelude.{Some, slice_get}
use Rattle.dep_core.specs.Dependency.{Dependency}
use Rattle.pool_core.specs.candidate_core.Options.{IsIn}
use Rattle.search_tables.specs.InstallIf.{install_if_at}
use Rattle.search_tables.specs.NameTable.{items_under_name}
use Rattle.search_tables.proofs.install_ifs.InstallIfs.new.Given as goal

abbrev pub invariant-loop-rank : goal.invariant-loop-rank
invariant-loop-rank l = (rank k : ℕ) (d : Dependency) → rank < l.rank → slice_get l.by_name.items rank ≡ Some k → IsIn d (install_if_at l.pool k) → IsIn rank (items_under_name l.waiting d.name)
