-- The raised dependencies, each with the choice that has it. The rule is in `docs/selection.md`, "Which
-- selection is taken": first the entries of world, then the dependencies of each choice in the order
-- chosen. Serves the contracts of `src/queue.rt` and `src/choices.rt` of `search_choices`.
use Rattle.std.specs.Prelude.{◌≡◌, ◌≤◌, ℕ, suc, Bool, if◌then◌else◌, List, [], ◌∷◌, ◌++◌, length, take, Option, Some, None}
use Rattle.std.specs.List.{find, flat_map}
use Rattle.dep_core.specs.Dependency.{Dependency}
use Rattle.pool_core.specs.candidate_core.Candidates.{entry}
use Rattle.pool_core.specs.candidate_core.Rank.{SelectionProblem}
use Rattle.search_tables.specs.Selection.{depends_at, is_unmet}

-- a dependency with its origin, in this order: the dependency; the choice that has it (None for an entry of world);
-- and its index among the dependencies of the choice, or among the entries of world, counted from 0
abbrev pub RaisedDepValue : Type 0
RaisedDepValue = Dependency × Option ℕ × ℕ

-- the dependencies of a list that are no conflicts, each with the choice `by` (None for world) and with its index;
-- the first dependency of the list has the index `n`
abbrev pub raised_deps_from : Option ℕ → ℕ → List Dependency → List RaisedDepValue
raised_deps_from by n [] = []
raised_deps_from by n (d ∷ ds) =
    if d.conflict then raised_deps_from by (suc n) ds else (d, by, n) ∷ raised_deps_from by (suc n) ds

-- the dependencies of a whole list that are no conflicts, each with the choice `by` (None for world) and with its
-- index, counted from 0
abbrev pub raised_deps : Option ℕ → List Dependency → List RaisedDepValue
raised_deps by deps = raised_deps_from by 0 deps

-- the dependencies that the choice at a place raises: those that are no conflicts
abbrev pub raised_deps_at : SelectionProblem → ℕ → List RaisedDepValue
raised_deps_at pool c = raised_deps (Some c) (depends_at pool c)

-- all dependencies that world and the choices raise, in the order in which they are to be met
abbrev pub queue_of : SelectionProblem → List ℕ → List RaisedDepValue
queue_of pool chosen = raised_deps None pool.world ++ flat_map (raised_deps_at pool) chosen

-- whether no choice meets a raised dependency
abbrev pub is_unmet_dep : SelectionProblem → List ℕ → RaisedDepValue → Bool
is_unmet_dep pool chosen r = is_unmet pool chosen (entry r.0)

-- the queue has at least `at` dependencies, and the first `at` of them are met
abbrev pub AreFirstDepsMet : SelectionProblem → List ℕ → ℕ → Type 0
AreFirstDepsMet pool chosen at = (at ≤ length (queue_of pool chosen))
    × (find (is_unmet_dep pool chosen) (take at (queue_of pool chosen)) ≡ None)
