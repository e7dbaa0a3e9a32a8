-- Which need (a dependency or name to be met) is next after some choices: an entry of world, then a dependency of a
-- choice, then a name that an install-if asks for. In all these definitions, `chosen` are the indexes of the candidates
-- chosen so far. The rules are in `docs/selection.md`, "Which selection is taken".
use Rattle.std.specs.Prelude.{◌≡◌, ◌⊎◌, ℕ, true, false, List, ◌∷◌, ◌++◌, Option, Some, None}
use Rattle.dep_core.specs.Dependency.{Dependency}
use Rattle.base_core.specs.ByteOrder.{precedes}
use Rattle.engine_core.specs.candidate_core.Candidates.{Candidate, Need, entry, named, is_eligible_with_positive_install_if}
use Rattle.engine_core.specs.candidate_core.Options.{IsIn}
use Rattle.engine_core.specs.candidate_core.Rank.{SelectionProblem, meets_at}
use Rattle.engine_core.specs.search_tables.Selection.{depends_at}

-- one of the chosen candidates meets the need
abbrev pub IsMetByChoice : SelectionProblem → List ℕ → Need → Type 0
IsMetByChoice pool chosen need = (c : ℕ) × IsIn c chosen × (meets_at pool c need ≡ true)

-- ---- dependencies

-- each dependency of the list that is no conflict is met by one of the chosen candidates
abbrev pub AreMetByChoices : SelectionProblem → List ℕ → List Dependency → Type 0
AreMetByChoices pool chosen deps = (d : Dependency) → IsIn d deps → d.conflict ≡ false
    → IsMetByChoice pool chosen (entry d)

-- `d` is the first dependency of the list that is no conflict and that no chosen candidate meets
pub record IsFirstUnmet (pool : SelectionProblem) (chosen : List ℕ) (deps : List Dependency)
    (d : Dependency) : Type 0 where
  -- the dependencies of the list before `d`
  pub front : List Dependency
  -- the dependencies of the list after `d`
  pub behind : List Dependency
  -- these make up the list, in this order
  pub located : deps ≡ front ++ d ∷ behind
  -- the dependencies before `d` that are no conflicts are met
  pub before : AreMetByChoices pool chosen front
  -- `d` is no conflict
  pub positive : d.conflict ≡ false
  -- no chosen candidate meets `d`
  pub unmet : ¬ IsMetByChoice pool chosen (entry d)

-- ---- dependencies of the choices

-- the dependencies of each candidate of `choices` that are no conflicts are met by the chosen candidates
abbrev pub AreDependenciesOfEachMet : SelectionProblem → List ℕ → List ℕ → Type 0
AreDependenciesOfEachMet pool chosen choices = (c : ℕ) → IsIn c choices
    → AreMetByChoices pool chosen (depends_at pool c)

-- `d` is the first unmet dependency of one of the `choices`, and all dependencies of the choices before this one are
-- met
pub record IsFirstOfChoices (pool : SelectionProblem) (chosen choices : List ℕ)
    (d : Dependency) : Type 0 where
  -- the choices before this one
  pub front : List ℕ
  -- the choice whose dependency is not met
  pub choice : ℕ
  -- the choices after it
  pub behind : List ℕ
  -- these make up the list of choices, in this order
  pub located : choices ≡ front ++ choice ∷ behind
  -- all dependencies of the choices before this one are met
  pub before : AreDependenciesOfEachMet pool chosen front
  -- `d` is the first dependency of this choice that is not met
  pub first : IsFirstUnmet pool chosen (depends_at pool choice) d

-- ---- names that an install-if asks for

-- An install-if asks for the name: a candidate has this name, its install-if may be used, and the chosen candidates
-- meet each entry of the install-if, but none of them meets the need for the name.
pub record IsAskedByInstallIf (pool : SelectionProblem) (chosen name : List ℕ) : Type 0 where
  -- a candidate of this name
  pub candidate : Candidate
  -- it is one of the candidates of the command
  pub located : IsIn candidate pool.candidates
  -- it has the name
  pub is_named : candidate.name ≡ name
  -- it may be selected, and its install-if is not empty and has no conflict
  pub usable : is_eligible_with_positive_install_if pool.world candidate ≡ true
  -- a chosen candidate meets each entry of its install-if
  pub applies : (d : Dependency) → IsIn d candidate.install_if
      → IsMetByChoice pool chosen (entry d)
  -- no chosen candidate meets the need for the name
  pub unmet : ¬ IsMetByChoice pool chosen (named name)

-- the name is the first in byte order of the names that an install-if asks for
pub record IsFirstByInstallIf (pool : SelectionProblem) (chosen name : List ℕ) : Type 0 where
  -- an install-if asks for the name
  pub asked : IsAskedByInstallIf pool chosen name
  -- no other name that an install-if asks for precedes it in byte order
  pub first : (other : List ℕ) → IsAskedByInstallIf pool chosen other
      → precedes other name ≡ false

-- ---- the next need

-- The need is the next one. A dependency is next if it is the first unmet entry of world, or if world is met and it is
-- the first unmet dependency of the choices, in their order. A name is next if all these are met, and it is the first
-- name that an install-if asks for.
abbrev pub IsNextNeed : SelectionProblem → List ℕ → Need → Type 0
IsNextNeed pool chosen (entry d) = IsFirstUnmet pool chosen pool.world d
    ⊎ (AreMetByChoices pool chosen pool.world × IsFirstOfChoices pool chosen chosen d)
IsNextNeed pool chosen (named name) = AreMetByChoices pool chosen pool.world
    × AreDependenciesOfEachMet pool chosen chosen × IsFirstByInstallIf pool chosen name

-- the option is the next need; None means that world, the dependencies of the choices and all install-ifs are met
abbrev pub IsNextNeedOrNone : SelectionProblem → List ℕ → Option Need → Type 0
IsNextNeedOrNone pool chosen (Some need) = IsNextNeed pool chosen need
IsNextNeedOrNone pool chosen None = AreMetByChoices pool chosen pool.world
    × AreDependenciesOfEachMet pool chosen chosen
    × ((name : List ℕ) → ¬ IsAskedByInstallIf pool chosen name)
