use Rattle.candidate_core.specs.adb_fields.Repeated.{entries_of_field_at_index, paths_of_package_files}
use Rattle.file_owners.specs.db_core.Packages.{lists_path}
use Rattle.tell_core.proofs.Listers.{found_is, listed, lister_owns}
use Rattle.tell_core.proofs.info.reporting.owners_are_those_that_list_a_path.Goals as goal

pub returns-clause-owner : goal.returns-clause-owner
returns-clause-owner c packages path pkg e =
    let found = found_is (lists_path path) pkg packages e in (found.0, listed path (paths_of_package_files pkg) found.1)

pub returns-clause-lister : goal.returns-clause-lister
returns-clause-lister c database pkg path once among lists = lister_owns path pkg (entries_of_field_at_index 0 database) once.1.paths_once among lists
