use Rattle.std.proofs.lemmas.Slice.Eq.{bytes_eq-Decides}
use Rattle.candidate_core.specs.adb_fields.Repeated.{entries_of_field_at_index, package_name}
use Rattle.file_owners.specs.db_core.Packages.{is_package_named}
use Rattle.tell_core.proofs.Listers.{found_is, named_is}
use Rattle.tell_core.proofs.info.reporting.packages_have_the_names_that_ask_for_them.Goals as goal

pub returns-clause-asked : goal.returns-clause-asked
returns-clause-asked c packages name pkg e =
    let found = found_is (is_package_named name) pkg packages e in (found.0, (bytes_eq-Decides (package_name pkg) name).0 found.1)

pub returns-clause-named : goal.returns-clause-named
returns-clause-named c database pkg once among = named_is pkg (entries_of_field_at_index 0 database) once.1.packages_once among
