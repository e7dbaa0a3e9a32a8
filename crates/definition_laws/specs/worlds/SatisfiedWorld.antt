-- What holds of the packages that a command selects: they satisfy world, and each is needed. The rules are in
-- `docs/selection.md`, "What satisfies world", 1 to 4, and "Which selection is taken", the end of its second paragraph.
use Rattle.std.specs.Prelude.{◌≡◌, ◌⊎◌, ◌↔◌, ℕ, true, false, List}
use Rattle.engine_core.specs.adb_fields.FirstPair.{IsIn}
use Rattle.engine_core.specs.candidate_core.Candidates.{Candidate, is_eligible_with_positive_install_if, is_allowed_by_tags_of_world, meets_dependency, occupies_name}
use Rattle.dep_core.specs.Dependency.{Dependency}

-- ---- world

-- one of the packages meets the dependency
abbrev pub IsMetByOne : List Candidate → Dependency → Type 0
IsMetByOne packages d =
    (c : Candidate) × IsIn c packages × (meets_dependency d c ≡ true)

-- the install-if of the candidate `c` applies: `c` may be selected, its install-if is not empty and has no conflict,
-- and the packages meet each of its entries
pub record InstallIfApplies (candidates : List Candidate) (world : List Dependency)
    (packages : List Candidate) (c : Candidate) : Type 0 where
  -- `c` is one of the candidates
  pub is_candidate : IsIn c candidates
  -- `c` may be selected, and its install-if is not empty and has no conflict
  pub usable : is_eligible_with_positive_install_if world c ≡ true
  -- one of the packages meets each entry of its install-if
  pub met : (d : Dependency) → IsIn d c.install_if → IsMetByOne packages d

-- the packages, which are some of the candidates, satisfy world
pub record SatisfyWorld (candidates : List Candidate) (world : List Dependency)
    (packages : List Candidate) : Type 0 where
  -- each package is one of the candidates
  pub are_candidates : (c : Candidate) → IsIn c packages → IsIn c candidates
  -- each package is allowed: it is installed, or from a repository without a tag, or with a tag that world uses
  pub allowed : (c : Candidate) → IsIn c packages → is_allowed_by_tags_of_world world c ≡ true
  -- no package meets a conflict of world
  pub not_barred : (c : Candidate) (d : Dependency) → IsIn c packages → IsIn d world
      → d.conflict ≡ true → meets_dependency d c ≡ false
  -- 1: a package meets each entry of world that is no conflict
  pub world_met : (d : Dependency) → IsIn d world → d.conflict ≡ false → IsMetByOne packages d
  -- and a package meets each dependency of each package that is no conflict
  pub depends_met : (c : Candidate) (d : Dependency) → IsIn c packages → IsIn d c.depends
      → d.conflict ≡ false → IsMetByOne packages d
  -- 2: no package meets a conflict of another package
  pub no_conflict : (c other : Candidate) (d : Dependency) → IsIn c packages
      → IsIn other packages → IsIn d c.depends → d.conflict ≡ true
      → meets_dependency d other ≡ true → other ≡ c
  -- 3: no two packages occupy the same name
  pub names_alone : (c other : Candidate) (name : List ℕ) → IsIn c packages
      → IsIn other packages → occupies_name name c ≡ true → occupies_name name other ≡ true
      → other ≡ c
  -- 4: if the install-if of a candidate applies, a package with the candidate's name is selected
  pub installs : (c : Candidate) → InstallIfApplies candidates world packages c
      → (other : Candidate) × IsIn other packages × (other.name ≡ c.name)

-- the two lists have the same packages as elements, in any order and number
abbrev pub AreEqualSetsOfCandidates : List Candidate → List Candidate → Type 0
AreEqualSetsOfCandidates packages others = (c : Candidate) → IsIn c packages ↔ IsIn c others

-- no packages that are some of the candidates satisfy world
abbrev pub IsUnsatisfiable : List Candidate → List Dependency → Type 0
IsUnsatisfiable candidates world =
    (packages : List Candidate) → ¬ SatisfyWorld candidates world packages

-- ---- what is needed

-- the package meets one of these dependencies that is no conflict
abbrev pub MeetsOneDependency : List Dependency → Candidate → Type 0
MeetsOneDependency deps c =
    (d : Dependency) × IsIn d deps × (d.conflict ≡ false) × (meets_dependency d c ≡ true)

-- the package `c` is needed: it meets an entry of world or a dependency of one of the packages, or it has the name of a
-- candidate whose install-if applies
abbrev pub IsNeededByWorldOrPackages :
    List Candidate → List Dependency → List Candidate → Candidate → Type 0
IsNeededByWorldOrPackages candidates world packages c =
    MeetsOneDependency world c
    ⊎ (((other : Candidate) × IsIn other packages × MeetsOneDependency other.depends c)
    ⊎ ((other : Candidate) × InstallIfApplies candidates world packages other
    × (c.name ≡ other.name)))
