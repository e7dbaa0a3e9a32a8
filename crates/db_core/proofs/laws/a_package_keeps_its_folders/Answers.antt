use Rattle.adb_copy.specs.Zeros.{without_zeros}
use Rattle.adb_copy.specs.adb_fields.Repeated.{name_of}
use Rattle.adb_view.specs.Values.{entry_at_index}
use Rattle.db_core.proofs.KeptParts.{folder_acl, folder_parts}
use Rattle.db_core.proofs.RootNames.{folder_name}
use Rattle.db_core.proofs.laws.a_package_keeps_its_folders.Goals as goal

pub returns-clause-names : goal.returns-clause-names
returns-clause-names c m flags = folder_parts name_of name_of folder_name m flags

pub returns-clause-acls : goal.returns-clause-acls
returns-clause-acls c m flags = folder_parts (λ d. entry_at_index d 1) (λ d. without_zeros (entry_at_index d 1)) folder_acl m flags
