use Rattle.std.proofs.Common.{ℕ, List, take}
use Rattle.dep_core.specs.Dependency.{Dependency}
use Rattle.pool_core.specs.candidate_core.Options.{AreAllMembersOf, IsIn}
use Rattle.search_tables.specs.NameTable.{items_under_name}
use Rattle.search_tables.proofs.install_ifs.add_entries.Given as goal

abbrev pub invariant-loop-i : goal.invariant-loop-i
invariant-loop-i l = record {
  more : (name : List ℕ) → AreAllMembersOf (items_under_name l.initial.waiting name) (items_under_name l.waiting name);
  each : (d : Dependency) → IsIn d (take l.i l.deps) → IsIn l.rank (items_under_name l.waiting d.name);
}
