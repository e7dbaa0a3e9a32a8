-- The clauses of a search, which are facts about a pool. The rule is in `docs/selection.md`, "How the
-- search works". Serves the contracts of `src/clauses.rt`, `src/known.rt`, `src/pool_rules.rt`
-- and `src/propagation.rt`.
use Rattle.std.specs.Prelude.{◌≡◌, ℕ, List, [], ◌∷◌, ◌⊎◌, Option, Result, IfOk, IfSome}
use Rattle.std.specs.declared.alloc.AllocError.{AllocError}
use Rattle.search_choices.specs.candidate_core.Rank.{SelectionProblem}
use Rattle.search_choices.specs.candidate_core.Options.{IsIn}
use Rattle.search_choices.specs.search_tables.Selection.{AreAllMembersOf}
use Rattle.search_choices.specs.search_tables.Reasons.{IsSolution}

-- a clause, in this order: its members, and its options, both as places in the list of candidates
abbrev pub ClauseValue : Type 0
ClauseValue = List ℕ × List ℕ

-- each satisfying selection that has all members of the clause has one of its options
abbrev pub IsClause : SelectionProblem → ClauseValue → Type 0
IsClause pool clause = (selection : List ℕ) → IsSolution pool selection →
    AreAllMembersOf clause.0 selection → (c : ℕ) × IsIn c clause.1 × IsIn c selection

-- if memory does not run out and a clause is found, it is a clause of the pool
abbrev pub IsClauseIfFound : SelectionProblem → Result (Option ClauseValue) AllocError → Type 0
IsClauseIfFound pool result = IfOk result (λ found. IfSome found (λ clause. IsClause pool clause))

-- each clause of the list is a clause of the pool
abbrev pub AreClauses : SelectionProblem → List ClauseValue → Type 0
AreClauses pool [] = Unit {0}
AreClauses pool (clause ∷ clauses) = IsClause pool clause × AreClauses pool clauses

-- each number of the list `members` is the candidate `c`, or is in the list `others`
abbrev pub AreAllMembersOfOr : List ℕ → ℕ → List ℕ → Type 0
AreAllMembersOfOr members c others = (o : ℕ) → IsIn o members → (o ≡ c) ⊎ IsIn o others
