-- What excludes a further candidate. The rules are in `docs/selection.md`, "What satisfies world", 2
-- and 3, and *exclude_each_other* of `Selection` has them for pairs. Serves the contracts of
-- `src/choices/excluders.rt` of `search_choices`.
use Rattle.std.specs.Prelude.{◌≡◌, ℕ, Bool, true, false, List}
use Rattle.dep_core.specs.Dependency.{Dependency}
use Rattle.pool_core.specs.candidate_core.Candidates.{Candidate, meets_dependency, occupies_name}
use Rattle.pool_core.specs.candidate_core.Options.{IsIn}
use Rattle.pool_core.specs.candidate_core.Rank.{SelectionProblem, candidate_at_passes}
use Rattle.search_tables.specs.Conflicts.{conflicts_among, conflicts_in}
use Rattle.search_tables.specs.Selection.{depends_at, exclude_each_other}
use Rattle.search_tables.specs.declared.conflicts.Conflicts.{Conflicts}

-- the table has for each name exactly the conflicts of the choices
abbrev pub IsConflictTable : SelectionProblem → List ℕ → Conflicts → Type 0
IsConflictTable pool chosen conflicts =
    (name : List ℕ) → conflicts_in conflicts.by_name name ≡ conflicts_among pool chosen name

-- the candidate at the place `k` is a choice, and the candidates at the places `k` and `id` exclude each other
abbrev pub IsExcluderAmongChoices : SelectionProblem → List ℕ → ℕ → ℕ → Type 0
IsExcluderAmongChoices pool chosen id k = IsIn k chosen × (exclude_each_other pool k id ≡ true)

-- no choice excludes the candidate `details` by this name. The candidate meets no conflict of the name that a choice
-- has; and if `is_occupied` is true, no choice occupies the name
abbrev pub IsNotExcludedAt : SelectionProblem → List ℕ → Candidate → List ℕ → Bool → Type 0
IsNotExcludedAt pool chosen details name is_occupied =
    ((k : ℕ) (d : Dependency) → IsIn k chosen → IsIn d (depends_at pool k) →
    d.conflict ≡ true → d.name ≡ name → meets_dependency d details ≡ false)
    × (is_occupied ≡ true → (k : ℕ) → IsIn k chosen → candidate_at_passes pool (occupies_name name) k
    ≡ false)
