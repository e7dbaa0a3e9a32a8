-- The files of the packages that a change adds, and why one of them is refused. The rules are in
-- `docs/commands.md`, "`add` and `del`", parts "What is read" and "What is refused"; of scripts in "`mkpkg`", part
-- "Scripts", and their numbers in `docs/formats.md`, "Schemas", table 6.
use Rattle.std.specs.Prelude.{ℕ, ◌==◌, ◌-◌, Bool, true, false, not, if◌then◌else◌, List, [], ◌∷◌, length, Option, Some, None, Result, Ok, Err, bytes_eq, slice_get}
use Rattle.db_core.specs.adb_schema.Soundness.{payload_in, root_value_of_payload}
use Rattle.adb_view.specs.FieldIndexes.{PACKAGE_SCRIPTS_INDEX}
use Rattle.adb_view.specs.Values.{entry_at_index, text_in}
use Rattle.adb_view.specs.declared.tables.Which.TheVariants as Tables
use Rattle.adb_view.specs.Plain.{Plain}
use Rattle.base_core.specs.declared.cause.Cause.{Cause}
use Rattle.db_core.specs.adb_fields.Repeated.{package_name}
use Rattle.dep_core.specs.Repositories.{Repository}
use Rattle.package_changes.specs.file_owners.Replaces.{package_version_text}
use Rattle.package_changes.specs.Changes.{candidate_version_text}
use Rattle.db_core.specs.pkg_core.Contents.{Contents, contents_in}
use Rattle.db_core.specs.pkg_core.Whole.{files_read_from_package, package_fault, payload_sha256_of_package_file}
use Rattle.change_inputs.specs.candidate_core.Candidates.{Candidate, is_same_id_by_nonempty_prefix}
use Rattle.report_core.specs.Numbers.{NAME_FIELD, VERSION_FIELD, HASHES_FIELD, PRE_INSTALL_SCRIPT, POST_INSTALL_SCRIPT, PRE_DEINSTALL_SCRIPT, POST_DEINSTALL_SCRIPT, PRE_UPGRADE_SCRIPT, POST_UPGRADE_SCRIPT}
use Rattle.report_core.specs.Reports.{Change, Downgrade, Install, Purge, Reinstall, Replace, Upgrade}
use Rattle.report_core.specs.declared.refusal.Refusal.{Refusal}
use Rattle.report_core.specs.declared.refusal.Refusal.TheVariants.{PackageBad, PackageDiffers, PackageMissing, ScriptNeeded}
use Rattle.root_names.specs.PackagePath.{path_if_valid_name, package_path}

-- ---- its path

-- the path of the file of the package with this name and version, in the folder of the repository's index; None if
-- there is no repository, or the path is no valid name
abbrev pub path_of_name_version_beside_index : List ℕ → List ℕ → Option Repository → Option (List ℕ)
path_of_name_version_beside_index name version None = None
path_of_name_version_beside_index name version (Some repository) =
    path_if_valid_name (package_path repository.path name version)

-- The path of the file of a candidate's package, or None. The candidate has the number of its repository, counted from
-- 1; a candidate of no repository has no file.
abbrev pub package_file_path_of_candidate : List Repository → Candidate → Option (List ℕ)
package_file_path_of_candidate repositories c = by_number c.repository
  where
    by_number : Option ℕ → Option (List ℕ)
    by_number None = None
    by_number (Some n) =
        path_of_name_version_beside_index c.name (candidate_version_text c) (slice_get repositories (n - 1))

-- ---- its tests

-- an added package, as its file has it: the file's bytes, its value, its identity, and the contents of
-- its files
pub record AddedPackage : Type 0 where
  -- the bytes of the package's file
  pub file : List ℕ
  -- the package as a plain value
  pub value : Plain
  -- the identity (hash) of the package
  pub id : List ℕ
  -- the contents of its files
  pub contents : List Contents

-- the package in a container
abbrev pub package_in_file : List ℕ → AddedPackage
package_in_file file = record {
  file = file;
  value = root_value_of_payload Tables.Package (payload_in file);
  id = payload_sha256_of_package_file file;
  contents = contents_in (files_read_from_package file);
}

-- the package, if it is that of the candidate; otherwise the refusal. First the identities are compared, then the
-- names, then the texts of the versions
abbrev pub package_unless_other_than_candidate : Candidate → AddedPackage → Result AddedPackage Refusal
package_unless_other_than_candidate c pkg =
    if not (is_same_id_by_nonempty_prefix c.id pkg.id)
    then Err (PackageDiffers c.name (candidate_version_text c) HASHES_FIELD c.id pkg.id)
    else if not (bytes_eq c.name (package_name pkg.value))
    then Err (PackageDiffers c.name (candidate_version_text c) NAME_FIELD c.name (package_name pkg.value))
    else if not (bytes_eq (candidate_version_text c) (package_version_text pkg.value))
    then Err (PackageDiffers c.name (candidate_version_text c) VERSION_FIELD (candidate_version_text c)
    (package_version_text pkg.value))
    else Ok pkg

-- the package, unless a test of its file failed (the cause), or it is not that of the candidate
abbrev pub package_unless_bad_or_different :
    Candidate → Option Cause → AddedPackage → Result AddedPackage Refusal
package_unless_bad_or_different c None pkg = package_unless_other_than_candidate c pkg
package_unless_bad_or_different c (Some cause) pkg =
    Err (PackageBad c.name (candidate_version_text c) cause)

-- the package of a candidate, given the file that is found under its path, or None; or the refusal
abbrev pub added_package_or_refusal : Candidate → Option (List ℕ) → Result AddedPackage Refusal
added_package_or_refusal c None = Err (PackageMissing c.name (candidate_version_text c))
added_package_or_refusal c (Some file) =
    package_unless_bad_or_different c (package_fault file) (package_in_file file)

-- ---- scripts

-- the script of a package with this number in the table of scripts (numbers count from 1), or no bytes if there is none
abbrev pub script_of : Plain → ℕ → List ℕ
script_of pkg number = text_in (entry_at_index (entry_at_index pkg PACKAGE_SCRIPTS_INDEX) (number - 1))

-- whether the package has a script with this number
abbrev pub has_script_with_number : Plain → ℕ → Bool
has_script_with_number pkg number = not (length (script_of pkg number) == 0)

-- of the scripts with these numbers, the first that the package has
abbrev pub first_script_number_of_package : Plain → List ℕ → Option ℕ
first_script_number_of_package pkg [] = None
first_script_number_of_package pkg (number ∷ numbers) =
    if has_script_with_number pkg number then Some number else first_script_number_of_package pkg numbers

-- the numbers, in the table of scripts, of the scripts pre-install and post-install
abbrev pub install_scripts : List ℕ
install_scripts = PRE_INSTALL_SCRIPT ∷ POST_INSTALL_SCRIPT ∷ []

-- the numbers, in the table of scripts, of the scripts pre-deinstall and post-deinstall
abbrev pub deinstall_scripts : List ℕ
deinstall_scripts = PRE_DEINSTALL_SCRIPT ∷ POST_DEINSTALL_SCRIPT ∷ []

-- the numbers, in the table of scripts, of the scripts pre-upgrade and post-upgrade
abbrev pub upgrade_scripts : List ℕ
upgrade_scripts = PRE_UPGRADE_SCRIPT ∷ POST_UPGRADE_SCRIPT ∷ []

-- the numbers of the scripts that the change of a package would run
abbrev pub scripts_of_change : Change → List ℕ
scripts_of_change (Install name version) = install_scripts
scripts_of_change (Reinstall name version) = upgrade_scripts
scripts_of_change (Purge name version) = deinstall_scripts
scripts_of_change (Upgrade name old new) = upgrade_scripts
scripts_of_change (Downgrade name old new) = upgrade_scripts
scripts_of_change (Replace name old new) = upgrade_scripts

-- the value, unless there is the number of a script that would have to run: then the package with this name is refused
abbrev pub unless_script_number : {A : Type 0} → List ℕ → Option ℕ → A → Result A Refusal
unless_script_number name None a = Ok a
unless_script_number name (Some number) a = Err (ScriptNeeded name number)

-- the value `a`, unless the package has one of the scripts with these numbers and scripts may not be left out (the
-- first argument is false); then the first such script of the package, which has this name, is refused
abbrev pub unless_script_needed :
    {A : Type 0} → Bool → List ℕ → Plain → List ℕ → A → Result A Refusal
unless_script_needed true name pkg numbers a = Ok a
unless_script_needed false name pkg numbers a =
    unless_script_number name (first_script_number_of_package pkg numbers) a
