-- By what two candidates exclude each other. The rules are in `docs/selection.md`, "What satisfies
-- world", 2 (conflicts) and 3 (names that are occupied).
use Rattle.std.specs.Prelude.{ℕ, Bool, not, ◌&&◌, if◌then◌else◌, List, Option, Some, is_some}
use Rattle.std.specs.Option.{option_and_then, option_map}
use Rattle.std.specs.List.{find}
use Rattle.dep_core.specs.Dependency.{Dependency}
use Rattle.search_tables.specs.candidate_core.Candidates.{Candidate, meets_dependency, occupies_name}
use Rattle.search_tables.specs.candidate_core.Rank.{SelectionProblem, candidate_at}

-- whether a dependency is a conflict, and the candidate `c` meets it
abbrev pub is_conflict_met_by : Candidate → Dependency → Bool
is_conflict_met_by c d = d.conflict && meets_dependency d c

-- the first conflict of the candidate `one` that the candidate `other` meets
abbrev pub conflict_with : Candidate → Candidate → Option Dependency
conflict_with one other = find (is_conflict_met_by other) one.depends

-- whether an entry of provides (`p`) occupies its name, since it has a version, and the candidate `other` occupies this
-- name too
abbrev pub both_occupy : Candidate → Dependency → Bool
both_occupy other p = not p.conflict && (is_some p.version && occupies_name p.name other)

-- the first name that these provides occupy, and that the candidate `other` occupies too
abbrev pub occupied_among : List Dependency → Candidate → Option (List ℕ)
occupied_among provides other =
    option_map (λ (p : Dependency). p.name) (find (both_occupy other) provides)

-- the first name that two candidates both occupy: the name of `one`, or one of its provides
abbrev pub shared_name : Candidate → Candidate → Option (List ℕ)
shared_name one other =
    if occupies_name one.name other then Some one.name else occupied_among one.provides other

-- the result of a function on the candidates at the places `a` and `b` of the pool; None if one of the places has no
-- candidate
abbrev pub of_candidates_at_places :
    {X : Type 0} → (Candidate → Candidate → Option X) → SelectionProblem → ℕ → ℕ → Option X
of_candidates_at_places f pool a b =
    option_and_then (λ one. option_and_then (f one) (candidate_at pool b)) (candidate_at pool a)

-- the first conflict of the candidate at the place `a` that the candidate at the place `b` meets
abbrev pub conflict_between : SelectionProblem → ℕ → ℕ → Option Dependency
conflict_between pool a b = of_candidates_at_places conflict_with pool a b

-- the first name that the candidates at the places `a` and `b` both occupy
abbrev pub shared_name_at_places : SelectionProblem → ℕ → ℕ → Option (List ℕ)
shared_name_at_places pool a b = of_candidates_at_places shared_name pool a b
