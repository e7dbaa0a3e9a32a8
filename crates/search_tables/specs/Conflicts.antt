-- The conflicts of the choices, by their names. The rule is in `docs/selection.md`, "What satisfies
-- world", 2. Serves the contracts of `src/conflicts.rt`.
use Rattle.std.specs.Prelude.{◌≡◌, ℕ, ◌&&◌, List, map, Some, slice_get}
use Rattle.std.specs.List.{filter, flat_map}
use Rattle.std.specs.Str.{bytes_eq}
use Rattle.dep_core.specs.Dependency.{Dependency}
use Rattle.pool_core.specs.candidate_core.Candidates.{Candidate}
use Rattle.pool_core.specs.candidate_core.Options.{IsIn}
use Rattle.pool_core.specs.candidate_core.Rank.{SelectionProblem}
use Rattle.search_tables.specs.NameTable.{items_under_name}
use Rattle.search_tables.specs.Selection.{depends_at}

-- those of the dependencies `deps` of the choice `by` that are conflicts of this name, each with the choice
abbrev pub conflicts_of_name_in : List ℕ → ℕ → List Dependency → List (ℕ × Dependency)
conflicts_of_name_in name by deps =
    map (λ (d : Dependency). (by, d))
    (filter (λ (d : Dependency). d.conflict && bytes_eq name d.name) deps)

-- the conflicts of a name that some choices have, in the order of the choices
abbrev pub conflicts_among : SelectionProblem → List ℕ → List ℕ → List (ℕ × Dependency)
conflicts_among pool chosen name = flat_map (λ c. conflicts_of_name_in name c (depends_at pool c)) chosen

-- a conflict of a choice, in this order: the choice, the conflict, and the conflict's index among the dependencies of
-- the choice, counted from 0
abbrev pub ListedConflictValue : Type 0
ListedConflictValue = ℕ × Dependency × ℕ

-- a conflict with its choice, without its index
abbrev pub conflict_without_index : ListedConflictValue → ℕ × Dependency
conflict_without_index listed = (listed.0, listed.1)

-- the conflicts under a name in a table, each with the choice that has it, without its index
abbrev pub conflicts_in : List (List ℕ × List ListedConflictValue) → List ℕ → List (ℕ × Dependency)
conflicts_in table name = map conflict_without_index (items_under_name table name)

-- if there is a candidate at the place `by`, its dependencies are these
abbrev pub HasDepends : List Candidate → ℕ → List Dependency → Type 0
HasDepends candidates by deps =
    (c : Candidate) → slice_get candidates by ≡ Some c → c.depends ≡ deps

-- the candidate of a listed conflict, if there is one, has the conflict at the stored index of its dependencies
abbrev pub IsConflictOf : List Candidate → ListedConflictValue → Type 0
IsConflictOf candidates listed = (c : Candidate) → slice_get candidates listed.0 ≡ Some c
    → slice_get c.depends listed.2 ≡ Some listed.1

-- each conflict in the table is an entry of its candidate's `depends`, at the stored index
abbrev pub AreConflictsOf : List Candidate → List (List ℕ × List ListedConflictValue) → Type 0
AreConflictsOf candidates table = (name : List ℕ) (listed : ListedConflictValue)
    → IsIn listed (items_under_name table name) → IsConflictOf candidates listed
