-- Why an added or removed package of a change is refused: reason 9 of `docs/commands.md`, "`add` and `del`", part "What
-- is refused". The texts of the refusals are in "Error lines" there. In all definitions, `r` has the packages before
-- the change and the selected candidates.
use Rattle.std.specs.Prelude.{◌≡◌, ◌⊎◌, ℕ, true, false, List, Some, None}
use Rattle.std.specs.List.{find}
use Rattle.outcome.specs.adb_fields.FirstPair.{IsIn}
use Rattle.outcome.specs.adb_fields.Repeated.{package_name}
use Rattle.adb_view.specs.Plain.{Plain}
use Rattle.base_core.specs.declared.cause.Cause.{Cause}
use Rattle.outcome.specs.change_inputs.Inputs.{Inputs}
use Rattle.outcome.specs.change_outcome.ChangeOutcome.{ChangeWishes}
use Rattle.outcome.specs.change_outcome.PackageFiles.{AddedPackage, first_script_number_of_package, has_script_with_number, package_in_file, scripts_of_change}
use Rattle.outcome.specs.db_core.Packages.{is_package_named}
use Rattle.outcome.specs.file_owners.Replaces.{package_version_text}
use Rattle.outcome.specs.make_info.Reads.{Reads}
use Rattle.outcome.specs.package_changes.Changes.{Replacement, change_of_name, candidate_version_text}
use Rattle.outcome.specs.pkg_core.Whole.{package_fault}
use Rattle.outcome.specs.candidate_core.Candidates.{Candidate, is_same_id_by_nonempty_prefix}
use Rattle.report_core.specs.Numbers.{HASHES_FIELD, NAME_FIELD, VERSION_FIELD}
use Rattle.report_core.specs.Reports.{Change}
use Rattle.refusal_laws.specs.AddedPackages.{IsAddedAsSelected, IsFileReadForAddedPackage, selected_candidate_of_name}

-- ---- its file

-- the change adds a candidate of this name and version, and no package file is found for it
abbrev pub IsAddedPackageFileMissing : Inputs → Replacement → Reads → List ℕ → List ℕ → Type 0
IsAddedPackageFileMissing inputs r read name version =
    IsFileReadForAddedPackage inputs r read name version None

-- the file of an added package with this name and version is found, and this is the first test that it fails
pub record IsAddedPackageFileBad (inputs : Inputs) (r : Replacement) (read : Reads) (name version : List ℕ)
    (cause : Cause) : Type 0 where
  -- the bytes of the package's file
  pub file : List ℕ
  pub is_read : IsFileReadForAddedPackage inputs r read name version (Some file)
  -- the first test that the file fails
  pub fault : package_fault file ≡ Some cause

-- ---- another package

-- the id of the candidate (`wanted`, from the index) and that of the package in the file (`found`) differ
abbrev pub HasOtherId : Candidate → AddedPackage → List ℕ → List ℕ → Type 0
HasOtherId c pkg wanted found =
    (wanted ≡ c.id) × (found ≡ pkg.id) × (is_same_id_by_nonempty_prefix wanted found ≡ false)

-- the name of the candidate (`wanted`, from the index) and that of the package in the file (`found`) differ
abbrev pub HasOtherName : Candidate → AddedPackage → List ℕ → List ℕ → Type 0
HasOtherName c pkg wanted found =
    (wanted ≡ c.name) × (found ≡ package_name pkg.value) × (wanted ≡ found → ⊥)

-- the version of the candidate (`wanted`, from the index) and that of the package in the file (`found`) differ
abbrev pub HasOtherVersion : Candidate → AddedPackage → List ℕ → List ℕ → Type 0
HasOtherVersion c pkg wanted found =
    (wanted ≡ candidate_version_text c) × (found ≡ package_version_text pkg.value) × (wanted ≡ found → ⊥)

-- `field` is the first field in which the package in a file differs from the candidate, in the order id, name, version.
-- `wanted` is its value in the index, and `found` that in the file
abbrev pub IsFirstOfIdNameVersionThatDiffers : Candidate → AddedPackage → ℕ → List ℕ → List ℕ → Type 0
IsFirstOfIdNameVersionThatDiffers c pkg field wanted found =
    ((field ≡ HASHES_FIELD) × HasOtherId c pkg wanted found)
    ⊎ (((field ≡ NAME_FIELD) × (is_same_id_by_nonempty_prefix c.id pkg.id ≡ true)
    × HasOtherName c pkg wanted found)
    ⊎ ((field ≡ VERSION_FIELD) × (is_same_id_by_nonempty_prefix c.id pkg.id ≡ true)
    × (c.name ≡ package_name pkg.value)
    × HasOtherVersion c pkg wanted found))

-- the file of an added package passes all tests, and the package in it is not the one that the index lists: `field` is
-- the first field that differs, `wanted` its value in the index, and `found` that in the file
pub record IsFileOfOtherPackage (inputs : Inputs) (r : Replacement) (read : Reads)
    (name version : List ℕ) (field : ℕ) (wanted found : List ℕ) : Type 0 where
  -- the bytes of the package's file
  pub file : List ℕ
  pub is_read : IsFileReadForAddedPackage inputs r read name version (Some file)
  -- the file passes all tests
  pub sound : package_fault file ≡ None
  -- this field of the package in the file differs from the candidate's
  pub other : IsFirstOfIdNameVersionThatDiffers is_read.candidate (package_in_file file) field wanted found

-- ---- scripts

-- the change removes the package `pkg` of this name: it is installed before the change, and no candidate of the name is
-- selected
pub record IsRemovedPackage (r : Replacement) (name : List ℕ) (pkg : Plain) : Type 0 where
  -- the package of this name before the change
  pub before : find (is_package_named name) r.before ≡ Some pkg
  -- no selected candidate has the name
  pub unselected : selected_candidate_of_name r name ≡ None

-- the change adds or removes the package `pkg` of this name
abbrev pub IsAddedOrRemoved : Inputs → Replacement → Reads → List ℕ → Plain → Type 0
IsAddedOrRemoved inputs r read name pkg =
    ((coming : AddedPackage) × IsAddedAsSelected inputs r read name coming × (pkg ≡ coming.value))
    ⊎ IsRemovedPackage r name pkg

-- The change would have to run the script with this number of the package of this name, and `--no-scripts` is not
-- given. The script is the first that the package has of those that would have to run. `script` is its number in table
-- 6 of `docs/formats.md`, "Schemas".
pub record IsFirstScriptToRunForPackageChange (inputs : Inputs) (r : Replacement) (wishes : ChangeWishes)
    (read : Reads) (name : List ℕ) (script : ℕ) : Type 0 where
  -- `--no-scripts` is not given
  pub asked : wishes.no_scripts ≡ false
  -- the package, which the change adds or removes
  pub pkg : Plain
  pub is_package : IsAddedOrRemoved inputs r read name pkg
  -- the change of the package with this name
  pub change : Change
  pub becomes : change_of_name r name ≡ Some change
  -- the change would run the script with this number
  pub runs : IsIn script (scripts_of_change change)
  -- the package has this script
  pub has : has_script_with_number pkg script ≡ true
  -- the script is the first one of the package that would run
  pub first : first_script_number_of_package pkg (scripts_of_change change) ≡ Some script
