use Rattle.std.proofs.Common.{◌≡◌, ◌≤◌, ◌++◌, ℕ, List, length, take}
use Rattle.dep_core.specs.Dependency.{Dependency}
use Rattle.pool_core.specs.candidate_core.Candidates.{Candidate}
use Rattle.search_tables.specs.Conflicts.{AreConflictsOf, conflicts_in, conflicts_of_name_in}
use Rattle.search_tables.proofs.conflicts.Conflicts.pop_all.Given as goal

abbrev pub invariant-loop-left : goal.invariant-loop-left
invariant-loop-left l = record {
  within : l.left ≤ length l.depends;
  front : (by : ℕ) (front : List ℕ → List (ℕ × Dependency)) → ((name : List ℕ) → conflicts_in l.initial.self.by_name name ≡ front name ++ conflicts_of_name_in name by l.depends) → (name : List ℕ) → conflicts_in l.self.by_name name ≡ front name ++ conflicts_of_name_in name by (take l.left l.depends);
  listed : (candidates : List Candidate) → AreConflictsOf candidates l.initial.self.by_name → AreConflictsOf candidates l.self.by_name;
}

abbrev pub decreases-loop-left : goal.decreases-loop-left
decreases-loop-left l = l.left
