-- The packages that a change adds, by what is read. How the file of a package is found is in `docs/commands.md`, "`add`
-- and `del`", part "What is read". In all definitions, `r` has the packages before the change and the selected
-- candidates.
use Rattle.std.specs.Prelude.{◌≡◌, ◌+◌, ℕ, true, List, length, Option, Some, None, option_and_then, slice_get}
use Rattle.std.specs.List.{find}
use Rattle.outcome.specs.adb_fields.Repeated.{package_name}
use Rattle.outcome.specs.change_inputs.Inputs.{Inputs, first_index_read_number}
use Rattle.outcome.specs.change_outcome.PackageFiles.{AddedPackage, package_file_path_of_candidate, package_in_file}
use Rattle.dep_core.specs.Repositories.{Repository}
use Rattle.outcome.specs.file_owners.Replaces.{package_version_text}
use Rattle.outcome.specs.make_info.Reads.{Reads}
use Rattle.outcome.specs.package_changes.Changes.{Replacement, change_of_name, is_candidate_named, names_before_and_selected, candidate_version_text}
use Rattle.outcome.specs.pkg_core.Whole.{package_fault}
use Rattle.outcome.specs.candidate_core.Candidates.{Candidate, is_same_id_by_nonempty_prefix}
use Rattle.report_core.specs.Reports.{Change}

-- the selected candidate of a name, if there is one
abbrev pub selected_candidate_of_name : Replacement → List ℕ → Option Candidate
selected_candidate_of_name r name = find (is_candidate_named name) r.selected

-- the file that the read with the number `n` finds under the path of a candidate's package file; None if there is none,
-- or the candidate has no such path
abbrev pub package_file_found_by_read : Reads → ℕ → List Repository → Candidate → Option (List ℕ)
package_file_found_by_read read n repositories c =
    option_and_then (read n) (package_file_path_of_candidate repositories c)

-- The selected candidate of this name is added, since the package of this name changes. The candidate has this version,
-- and `file` is what is found under the path of its package file. After the reads of the indexes there is one for each
-- name of the packages before and of the selected ones, in byte order.
pub record IsFileReadForAddedPackage (inputs : Inputs) (r : Replacement) (read : Reads)
    (name version : List ℕ)
    (file : Option (List ℕ)) : Type 0 where
  -- the selected candidate of this name
  pub candidate : Candidate
  pub selected : selected_candidate_of_name r name ≡ Some candidate
  -- the text of the candidate's version is this one
  pub has_version : candidate_version_text candidate ≡ version
  -- the change of the package with this name: it is installed, replaced, or installed again
  pub change : Change
  pub becomes : change_of_name r name ≡ Some change
  -- the index of the name among those of the packages before and of the selected ones
  pub place : ℕ
  pub is_place : slice_get (names_before_and_selected r) place ≡ Some name
  -- the read with the number for this name finds this file
  pub is_file : package_file_found_by_read read
      (first_index_read_number + length inputs.root.repositories + place)
      inputs.root.repositories candidate ≡ file

-- a file passes all tests, and the package in it has the candidate's id, name and version
pub record IsSoundFileWithIdNameAndVersionOf (c : Candidate) (file : List ℕ) : Type 0 where
  -- the file passes all tests
  pub sound : package_fault file ≡ None
  -- the package in the file has the candidate's id
  pub id : is_same_id_by_nonempty_prefix c.id (package_in_file file).id ≡ true
  -- the package in the file has the candidate's name
  pub name : package_name (package_in_file file).value ≡ c.name
  -- the package in the file has the text of the candidate's version
  pub version : package_version_text (package_in_file file).value ≡ candidate_version_text c

-- the change adds the package `pkg` with this name: it is the one in the file of the selected candidate of the name
pub record IsAddedAsSelected (inputs : Inputs) (r : Replacement) (read : Reads) (name : List ℕ)
    (pkg : AddedPackage) : Type 0 where
  -- the text of the package's version
  pub version : List ℕ
  -- the bytes of the package's file
  pub file : List ℕ
  pub is_read : IsFileReadForAddedPackage inputs r read name version (Some file)
  -- the package in the file has the id, the name and the version of the candidate
  pub as_selected : IsSoundFileWithIdNameAndVersionOf is_read.candidate file
  -- the package is the one in the file
  pub is_package : pkg ≡ package_in_file file
