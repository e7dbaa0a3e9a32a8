-- The packages of a database, and which of them lists a file.
-- The rules are in `docs/formats.md`, "Schemas", tables 7 and 9, and "The texts" (which paths may be
-- listed, and the reserved names); who owns a path, in `docs/commands.md`, "`info`".
use Rattle.std.specs.Prelude.{ℕ, Bool, List, [], Option, Some, None, not, ◌||◌, bytes_eq}
use Rattle.std.specs.List.{list_all, list_any}
use Rattle.base_core.specs.Name.{is_name}
use Rattle.adb_view.specs.Plain.{Plain}
use Rattle.adb_view.specs.FieldIndexes.{IDB_PACKAGES_INDEX, INFO_HASHES_INDEX, PACKAGE_INFO_INDEX}
use Rattle.adb_view.specs.Values.{entry_at_index, text_in}
use Rattle.pkg_core.specs.adb_schema.Reserved.{is_reserved}
use Rattle.pkg_core.specs.adb_fields.Repeated.{entries_of_field_at_index, package_name, paths_of_package_files}
use Rattle.db_core.specs.Members.{Member, is_added}

-- whether a package has this name
abbrev pub is_package_named : List ℕ → Plain → Bool
is_package_named name pkg = bytes_eq (package_name pkg) name

-- the id of an installed package, which its information keeps in the field `hashes`
abbrev pub installed_id : Plain → List ℕ
installed_id pkg = text_in (entry_at_index (entry_at_index pkg PACKAGE_INFO_INDEX) INFO_HASHES_INDEX)

-- whether a package lists a file with this path
abbrev pub lists_path : List ℕ → Plain → Bool
lists_path path pkg = list_any (bytes_eq path) (paths_of_package_files pkg)

-- whether each path that a package lists is a name
abbrev pub lists_only_valid_names : Plain → Bool
lists_only_valid_names pkg = list_all is_name (paths_of_package_files pkg)

-- whether no path that a package lists is reserved
abbrev pub lists_no_reserved_path : Plain → Bool
lists_no_reserved_path pkg = list_all (λ path. not (is_reserved path)) (paths_of_package_files pkg)

-- whether a member is added, or lists no reserved path: a package may list one, a database may not
abbrev pub is_added_or_lists_no_reserved : Member → Bool
is_added_or_lists_no_reserved m = is_added m || lists_no_reserved_path m.pkg

-- the packages of the value of a database; none if there is no database
abbrev pub packages_of_database_value : Option Plain → List Plain
packages_of_database_value None = []
packages_of_database_value (Some v) = entries_of_field_at_index IDB_PACKAGES_INDEX v
