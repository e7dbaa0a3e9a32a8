-- What `list`, `search` and `policy` print, as the manual says it. The rules are in `docs/commands.md`,
-- "Queries", "`list`", "`search`" and "`policy`". Serves the laws of `src/queries.rt`.
use Rattle.std.specs.Prelude.{ℕ, ◌≡◌, ◌⊎◌, ◌↔◌, suc, Bool, true, List, [], ◌++◌, Option, Some, is_some, slice_get}
use Rattle.std.specs.List.{flat_map}
use Rattle.std.specs.Option.{option_map_or}
use Rattle.std.specs.Ordering.{nat_cmp}
use Rattle.tell_core.specs.candidate_core.Candidates.{Candidate}
use Rattle.tell_core.specs.candidate_core.Options.{IsIn}
use Rattle.command_core.specs.declared.operands.Operand.{Operand}
use Rattle.dep_core.specs.Repositories.{Repository}
use Rattle.query_core.specs.Asked.{AreStrictlyInOrderBy, IsNameMatchedBySomePattern, IsOwnOrProvidedName, HasPartMatchedBySomePattern}
use Rattle.query_core.specs.Order.{printed_version, candidate_places_cmp}
use Rattle.report_core.specs.QueryReports.{policy_database_line, policy_repository_line, policy_version_heading}

-- ---- `list` and `search`

-- `list` is asked for the candidate `c`: no pattern is given, or a pattern matches the name of `c`; and `c` is
-- installed if `installed_only` is true (`--installed`)
abbrev pub IsInListReportByInstalledFlag : List Operand → Bool → Candidate → Type 0
IsInListReportByInstalledFlag patterns installed_only c =
    ((patterns ≡ []) ⊎ IsNameMatchedBySomePattern patterns c.name)
    × (installed_only ≡ true → c.installed ≡ true)

-- `search` is asked for the candidate `c`: it is from a repository, and a pattern matches a part of its name, or of a
-- name that it provides
abbrev pub IsSearchHitInRepositoryBySomePattern : List Operand → Candidate → Type 0
IsSearchHitInRepositoryBySomePattern patterns c =
    (is_some c.repository ≡ true)
    × ((name : List ℕ) × (IsOwnOrProvidedName c name × HasPartMatchedBySomePattern patterns name))

-- the line of the candidate at a place of the list, counted from 0; no bytes if the list has no such place
abbrev pub line_at : (Candidate → List ℕ) → List Candidate → ℕ → List ℕ
line_at line candidates place = option_map_or line (slice_get candidates place) []

-- the text has one line for each candidate of the list for which `IsAsked` holds, and no other line, in the order in
-- which queries print candidates. `line` gives the line of a candidate
pub record HasLinesOfSortedAskedCandidates (IsAsked : Candidate → Type 0) (line : Candidate → List ℕ)
    (candidates : List Candidate) (text : List ℕ) : Type 0 where
  -- the places of the candidates that have a line
  pub places : List ℕ
  -- a place is in this list exactly if the candidate at this place is asked for
  pub each : (place : ℕ) → IsIn place places
      ↔ ((c : Candidate) × (slice_get candidates place ≡ Some c) × IsAsked c)
  -- the lines are in the order in which queries print candidates
  pub order : AreStrictlyInOrderBy (candidate_places_cmp candidates) places
  -- the text has these lines
  pub text_is : text ≡ flat_map (line_at line candidates) places

-- ---- `policy`

-- a candidate has this name as its own name, and this version; `version` is None for a candidate without a version
pub record HasNameAndVersion (name : List ℕ) (version : Option (List ℕ)) (c : Candidate) : Type 0 where
  -- the candidate's own name is this name; names that it provides do not count
  pub named : c.name ≡ name
  -- the candidate has this version, or no version if `version` is None
  pub versioned : c.version ≡ version

-- the package of this name is installed in this version: an installed candidate of the list has both
pub record IsVersionInstalled (candidates : List Candidate) (name : List ℕ)
    (version : Option (List ℕ)) : Type 0 where
  -- the installed candidate
  pub candidate : Candidate
  -- the candidate is in the list
  pub listed : IsIn candidate candidates
  -- the candidate has this name and version
  pub same : HasNameAndVersion name version candidate
  -- the candidate is installed
  pub installed : candidate.installed ≡ true

-- a candidate of the repository with this number, counted from 1, has this name and version
pub record IsVersionInRepository (candidates : List Candidate) (name : List ℕ)
    (version : Option (List ℕ)) (number : ℕ) : Type 0 where
  -- the candidate from this repository
  pub candidate : Candidate
  -- the candidate is in the list
  pub listed : IsIn candidate candidates
  -- the candidate has this name and version
  pub same : HasNameAndVersion name version candidate
  -- the candidate is from the repository with this number
  pub numbered : candidate.repository ≡ Some number

-- the line of the repository at a place of the list, counted from 0; no bytes if the list has no such place
abbrev pub repository_line_at : List Repository → ℕ → List ℕ
repository_line_at repositories place =
    option_map_or (λ (r : Repository). policy_repository_line r.tag r.path)
    (slice_get repositories place) []

-- the text of one version of the package `name` in the report of `policy`: the heading of the version, the line of the
-- database if this version is installed, and a line for each repository that has it, in the order of the list
pub record HasPolicyLinesOfOneVersionOrOfUnversioned (candidates : List Candidate)
    (repositories : List Repository)
    (name : List ℕ) (version : Option (List ℕ)) (text : List ℕ) : Type 0 where
  -- the line of the database, or no bytes
  pub database : List ℕ
  -- there is this line exactly if the version is installed
  pub database_is : ((database ≡ policy_database_line) × IsVersionInstalled candidates name version)
      ⊎ ((database ≡ []) × (IsVersionInstalled candidates name version → ⊥))
  -- the places of the repositories that have the version, counted from 0
  pub places : List ℕ
  -- a place is in this list exactly if the list of repositories has this place, and its repository has the version
  pub each : (place : ℕ) → IsIn place places
      ↔ ((is_some (slice_get repositories place) ≡ true)
      × IsVersionInRepository candidates name version (suc place))
  -- the places are in rising order
  pub order : AreStrictlyInOrderBy nat_cmp places
  -- the text is the heading, the line of the database, and the lines of these repositories
  pub text_is : text
      ≡ policy_version_heading (printed_version version) ++ database
      ++ flat_map (repository_line_at repositories) places
