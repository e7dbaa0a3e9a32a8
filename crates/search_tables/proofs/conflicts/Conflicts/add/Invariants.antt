use Rattle.std.proofs.Common.{◌≡◌, ◌++◌, ℕ, List, take}
use Rattle.pool_core.specs.candidate_core.Candidates.{Candidate}
use Rattle.search_tables.specs.Conflicts.{AreConflictsOf, HasDepends, conflicts_in, conflicts_of_name_in}
use Rattle.search_tables.proofs.conflicts.Conflicts.add.Given as goal

abbrev pub invariant-loop-i : goal.invariant-loop-i
invariant-loop-i l = record {
  conflicts : (name : List ℕ) → conflicts_in l.self.by_name name ≡ conflicts_in l.initial.self.by_name name ++ conflicts_of_name_in name l.by (take l.i l.depends);
  listed : (candidates : List Candidate) → HasDepends candidates l.by l.depends → AreConflictsOf candidates l.initial.self.by_name → AreConflictsOf candidates l.self.by_name;
}
