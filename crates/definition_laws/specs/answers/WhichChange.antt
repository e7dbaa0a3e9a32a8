-- What decides which change (install, upgrade, purge and so on) the package of a name has. The rules are in
-- `docs/commands.md`, "`add` and `del`", part "What is reported", and in "`upgrade` and `fix`". Serves the laws of
-- `src/changes.rt`. The argument `r` is the replacement: the packages before, the selected ones, and the reinstalled.
use Rattle.std.specs.Prelude.{◌≡◌, ℕ, ◌+◌, true, List, None, Some, is_some, length, map, slice_get}
use Rattle.std.specs.List.{find}
use Rattle.change_outcome.specs.adb_fields.Repeated.{package_name}
use Rattle.adb_view.specs.Plain.{Plain}
use Rattle.base_core.specs.Lists.{IsIn}
use Rattle.tell_core.specs.candidate_core.Candidates.{Candidate, is_same_id_by_nonempty_prefix}
use Rattle.change_outcome.specs.db_core.Packages.{installed_id, is_package_named}
use Rattle.tell_core.specs.file_owners.Replaces.{package_version_text}
use Rattle.change_outcome.specs.package_changes.Changes.{Replacement, change_of_name, is_candidate_named, candidate_version_text}
use Rattle.report_core.specs.Reports.{Change, Downgrade, Install, Purge, Reinstall, Replace, Upgrade, numbered_change, report_lines}
use Rattle.version_core.specs.Order.{is_version}

-- before the change the package of this name is `pkg`; after it, the selected candidate `c` of a repository. The
-- version texts of both are versions
pub record AreOldAndRepositoryOneWithValidVersions (r : Replacement) (name : List ℕ) (pkg : Plain)
    (c : Candidate)
    : Type 0 where
  -- the package of this name before the change
  pub before : find (is_package_named name) r.before ≡ Some pkg
  -- the selected candidate of this name, which is from a repository
  pub selected : find (is_candidate_named name) r.selected ≡ Some c
  -- the candidate is from a repository
  pub repository : is_some c.repository ≡ true
  -- the version text of the package is a version
  pub old : is_version (package_version_text pkg) ≡ true
  -- the version text of the candidate is a version
  pub new : is_version (candidate_version_text c) ≡ true

-- a package of this name is installed before the change, and the selected candidate `c` of this name is from no
-- repository: it is this installed package
pub record IsInstalledPackageOfNoRepositorySelected (r : Replacement) (name : List ℕ)
    (c : Candidate) : Type 0 where
  -- the package of this name before the change
  pub installed : Plain
  -- this package is the first one of this name before the change
  pub before : find (is_package_named name) r.before ≡ Some installed
  -- the selected candidate of this name
  pub selected : find (is_candidate_named name) r.selected ≡ Some c
  -- the candidate is from no repository
  pub repository : c.repository ≡ None

-- the candidate has the same version text and the same id as the package; an id may be a prefix of the other
abbrev pub IsSameVersionAndIdByNonemptyPrefix : Plain → Candidate → Type 0
IsSameVersionAndIdByNonemptyPrefix pkg c =
    (package_version_text pkg ≡ candidate_version_text c)
    × (is_same_id_by_nonempty_prefix (installed_id pkg) c.id ≡ true)

-- the name of the package that a change concerns
abbrev pub changed_name : Change → List ℕ
changed_name (Install name version) = name
changed_name (Reinstall name version) = name
changed_name (Purge name version) = name
changed_name (Upgrade name old new) = name
changed_name (Downgrade name old new) = name
changed_name (Replace name old new) = name

-- before the change a package of this name is installed
abbrev pub WasInstalled : Replacement → List ℕ → Type 0
WasInstalled r name = IsIn name (map package_name r.before)

-- a selected candidate has this name
abbrev pub IsSelected : Replacement → List ℕ → Type 0
IsSelected r name = IsIn name (map (λ (c : Candidate). c.name) r.selected)

-- the change of this name is `Purge` (the package is removed), with any version
abbrev pub HasPurgeChange : Replacement → List ℕ → Type 0
HasPurgeChange r name = (version : List ℕ) × (change_of_name r name ≡ Some (Purge name version))

-- the change of this name is `Install` (no package of the name was installed), with any version
abbrev pub HasInstallChange : Replacement → List ℕ → Type 0
HasInstallChange r name = (version : List ℕ) × (change_of_name r name ≡ Some (Install name version))

-- the text has one line for each change, in their order. Each line begins with the number of the change, counted from
-- 1, and the number of all changes, as in `(1/3)`
pub record HasNumberedChangeLines (changes : List Change) (text : List ℕ) : Type 0 where
  -- the lines of the text
  pub lines : List (List ℕ)
  -- the text consists of these lines
  pub text_is : text ≡ report_lines lines
  -- there are as many lines as changes
  pub count : length lines ≡ length changes
  -- the line of each change begins with its number, counted from 1, and the count of all
  pub each : (i : ℕ) (change : Change) → slice_get changes i ≡ Some change
      → slice_get lines i ≡ Some (numbered_change (i + 1) (length changes) change)
