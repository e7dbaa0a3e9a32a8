-- Where a version of a name is: computed before it is printed. No rule of a document: serves the contracts of
-- `src/version_places.rt` and `src/policy_query.rt`.
use Rattle.std.specs.Prelude.{◌≡◌, ◌≤◌, ◌-◌, ℕ, Bool, true, nat_lt, if◌then◌else◌, List, [], ◌∷◌, ◌++◌, Option, slice_get}
use Rattle.std.specs.List.{filter, list_any}
use Rattle.std.specs.Option.{option_map_or}
use Rattle.pool_core.specs.candidate_core.Candidates.{Candidate}
use Rattle.pool_core.specs.candidate_core.Options.{IsIn}
use Rattle.dep_core.specs.Repositories.{Repository}
use Rattle.report_core.specs.QueryReports.{policy_database_line, policy_repository_line, policy_version_heading}
use Rattle.query_core.specs.Order.{printed_version}
use Rattle.query_core.specs.Policy.{has_own_name_and_version_text, is_of_repository}

-- A version of a name: whether a candidate with it is installed, and the numbers of the repositories that
-- have such a candidate. No number is less than one before it.
pub record VersionPlaces : Type 0 where
  -- the text of the version; None if there is no version
  pub version : Option (List ℕ)
  -- whether a candidate with this version is installed
  pub is_installed : Bool
  -- the numbers of the repositories that have such a candidate, counted from 1; they are in rising order, and a
  -- number may be repeated
  pub repositories : List ℕ

-- a value of *VersionPlaces* from its parts
abbrev pub version_places_from_parts : Option (List ℕ) → Bool → List ℕ → VersionPlaces
version_places_from_parts version is_installed repositories =
    record { version = version; is_installed = is_installed; repositories = repositories }

-- no number of the list is less than one before it
abbrev pub AreNonDecreasing : List ℕ → Type 0
AreNonDecreasing [] = Unit {0}
AreNonDecreasing (n ∷ numbers) = ((m : ℕ) → IsIn m numbers → n ≤ m) × AreNonDecreasing numbers

-- the line of the repository with a number, counted from 1; nothing if there is none
abbrev pub repository_line_numbered : List Repository → ℕ → List ℕ
repository_line_numbered repositories number =
    option_map_or (λ (r : Repository). policy_repository_line r.tag r.path)
    (slice_get repositories (number - 1)) []

-- the lines of the repositories with these numbers, which are in rising order. A number is skipped if it is not
-- greater than `last`, the greatest number before it
abbrev pub distinct_repository_lines : List Repository → ℕ → List ℕ → List ℕ
distinct_repository_lines repositories last [] = []
distinct_repository_lines repositories last (n ∷ numbers) =
    if nat_lt last n then repository_line_numbered repositories n
    ++ distinct_repository_lines repositories n numbers
    else distinct_repository_lines repositories last numbers

-- what is printed of a version: its heading, a line for the database if it is installed, and a line for each of its
-- repositories
abbrev pub version_lines : List Repository → VersionPlaces → List ℕ
version_lines repositories places =
    policy_version_heading (printed_version places.version)
    ++ (if places.is_installed then policy_database_line else [])
    ++ distinct_repository_lines repositories 0 places.repositories

-- `places` says rightly where these candidates, which have one version, are
pub record ListsPlacesOf (candidates : List Candidate) (places : VersionPlaces) : Type 0 where
  -- the field `is_installed` says whether one of the candidates is installed
  pub installed : list_any (λ (c : Candidate). c.installed) candidates ≡ places.is_installed
  -- no number of a repository is less than one before it
  pub order : AreNonDecreasing places.repositories
  -- each number is that of the repository of a candidate
  pub each : (number : ℕ) → IsIn number places.repositories
      → list_any (is_of_repository number) candidates ≡ true
  -- the number of each candidate's repository is in the list
  pub all : (number : ℕ) → list_any (is_of_repository number) candidates ≡ true
      → IsIn number places.repositories

-- `places` says rightly where the candidates with this name of their own and with its version are
abbrev pub ListsPlacesOfVersion : List Candidate → List ℕ → VersionPlaces → Type 0
ListsPlacesOfVersion candidates name places =
    ListsPlacesOf (filter (has_own_name_and_version_text name places.version) candidates) places
