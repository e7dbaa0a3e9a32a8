-- The value of a sound container, table by table: each text and number obeys the rule of its field. The
-- rules are in the table of `docs/formats.md`, "The texts"; the fields in "Schemas". The numbers above
-- the fields of records are those of that table.
use Rattle.std.specs.Prelude.{◌≡◌, ℕ, true, if◌then◌else◌, List, [], length}
use Rattle.version_core.specs.Order.{is_version}
use Rattle.dep_core.specs.Dependency.{is_dependency_name_by_bytes_and_length, is_package_name}
use Rattle.dep_core.specs.Value.{is_match_number, is_version_or_empty}
use Rattle.adb_view.specs.Plain.{Plain}
use Rattle.adb_view.specs.Shaped.{Each}
use Rattle.adb_view.specs.FieldIndexes.{DEP_MATCH_INDEX, DEP_NAME_INDEX, DEP_VERSION_INDEX, DIR_FILES_INDEX, DIR_NAME_INDEX, FILE_HASHES_INDEX, FILE_NAME_INDEX, FILE_TARGET_INDEX, IDB_PACKAGES_INDEX, INDEX_PACKAGES_INDEX, INDEX_PKGNAME_SPEC_INDEX, INFO_DEPENDS_INDEX, INFO_HASHES_INDEX, INFO_INSTALL_IF_INDEX, INFO_NAME_INDEX, INFO_PROVIDES_INDEX, INFO_RECOMMENDS_INDEX, INFO_REPLACES_INDEX, INFO_VERSION_INDEX, INTENT_REMOVALS_INDEX, INTENT_WRITES_INDEX, PACKAGE_INFO_INDEX, PACKAGE_PATHS_INDEX}
use Rattle.adb_view.specs.Values.{entries_in, entry_at_index, int_in, text_in}
use Rattle.adb_view.specs.declared.tables.Which.{Which}
use Rattle.adb_view.specs.declared.tables.Which.TheVariants.{Dep, Acl, PkgInfo, File, Dir, Scripts, Package, Index, Idb, Intent}
use Rattle.adb_fields.specs.Paths.{path_of}
use Rattle.adb_schema.specs.Rules.{is_name_allowed_in_intent, is_digest_length, is_digest_length_or_none, is_valid_file_name_in_folder, is_folder_name, is_supported_pkgname_spec, is_link_target_or_none}
use Rattle.adb_schema.specs.Texts.{is_package_hash_length, is_file_with_contents, is_path_unreserved_if_in_database, is_file_hash_needed_unless_in_database}

-- a dependency in a tested container: a name, a version or none, and a match number with an operator
pub record ObeysTextAndNumberRulesOfDependency (v : Plain) : Type 0 where
  -- field 101: the name of the dependency
  pub name : is_dependency_name_by_bytes_and_length (text_in (entry_at_index v DEP_NAME_INDEX)) ≡ true
  -- field 102: a version, or empty
  pub version : is_version_or_empty (text_in (entry_at_index v DEP_VERSION_INDEX)) ≡ true
  -- field 103: the match number
  pub matching : is_match_number (int_in (entry_at_index v DEP_MATCH_INDEX)) ≡ true

-- the information `v` of a package obeys the rules of its fields, in a container with the table `root` at its root.
-- In an index it has a hash
pub record ObeysTextAndNumberRulesOfInformation (root : Which) (v : Plain) : Type 0 where
  -- field 301: the name of a package
  pub name : is_package_name (text_in (entry_at_index v INFO_NAME_INDEX)) ≡ true
  -- field 302: a version
  pub version : is_version (text_in (entry_at_index v INFO_VERSION_INDEX)) ≡ true
  -- field 303: the length of the hash; in an index it may not be 0
  pub hash : is_package_hash_length root (length (text_in (entry_at_index v INFO_HASHES_INDEX))) ≡ true
  -- field 315: each entry obeys the rules of a dependency, as in the next four fields
  pub depends : Each ObeysTextAndNumberRulesOfDependency (entries_in (entry_at_index v INFO_DEPENDS_INDEX))
  -- field 316
  pub provides : Each ObeysTextAndNumberRulesOfDependency
      (entries_in (entry_at_index v INFO_PROVIDES_INDEX))
  -- field 317
  pub replaces : Each ObeysTextAndNumberRulesOfDependency
      (entries_in (entry_at_index v INFO_REPLACES_INDEX))
  -- field 318
  pub install_if : Each ObeysTextAndNumberRulesOfDependency
      (entries_in (entry_at_index v INFO_INSTALL_IF_INDEX))
  -- field 319
  pub recommends : Each ObeysTextAndNumberRulesOfDependency
      (entries_in (entry_at_index v INFO_RECOMMENDS_INDEX))

-- the entry `v` of a file obeys the rules of its fields, in a folder with the path `folder` and a container
-- with the table `root` at its root. A file with contents has their hash, which may be missing in a database
pub record ObeysTextAndNumberRulesOfFileInFolder (root : Which) (folder : List ℕ) (v : Plain) : Type 0 where
  -- field 401: one part of a path, short enough for a file in this folder
  pub name : is_valid_file_name_in_folder folder (text_in (entry_at_index v FILE_NAME_INDEX)) ≡ true
  -- field 401 again: a database lists no file under a reserved name
  pub listed : is_path_unreserved_if_in_database root
      (path_of folder (text_in (entry_at_index v FILE_NAME_INDEX))) ≡ true
  -- field 405: the length of the hash, which may be 0 if no hash is needed
  pub hash : (if is_file_hash_needed_unless_in_database root (is_file_with_contents v)
      then is_digest_length (length (text_in (entry_at_index v FILE_HASHES_INDEX)))
      else is_digest_length_or_none (length (text_in (entry_at_index v FILE_HASHES_INDEX)))) ≡ true
  -- field 406: the target of a link, or empty
  pub target : is_link_target_or_none (text_in (entry_at_index v FILE_TARGET_INDEX)) ≡ true

-- a folder `v` obeys the rules of its fields, in a container with the table `root` at its root
pub record ObeysTextAndNumberRulesOfFolder (root : Which) (v : Plain) : Type 0 where
  -- field 501: the path of the folder, or empty
  pub name : is_folder_name (text_in (entry_at_index v DIR_NAME_INDEX)) ≡ true
  -- each file obeys the rules of fields 401 to 406
  pub files : Each (ObeysTextAndNumberRulesOfFileInFolder root (text_in (entry_at_index v DIR_NAME_INDEX)))
      (entries_in (entry_at_index v DIR_FILES_INDEX))

-- a package `v` obeys the rules of its fields, in a container with the table `root` at its root
pub record ObeysTextAndNumberRulesOfPackage (root : Which) (v : Plain) : Type 0 where
  -- the information of the package obeys the rules of its fields
  pub info : ObeysTextAndNumberRulesOfInformation root (entry_at_index v PACKAGE_INFO_INDEX)
  -- each folder of the package obeys the rules of its fields
  pub folders : Each (ObeysTextAndNumberRulesOfFolder root)
      (entries_in (entry_at_index v PACKAGE_PATHS_INDEX))

-- an index `v` obeys the rules of its fields
pub record ObeysTextAndNumberRulesOfIndex (v : Plain) : Type 0 where
  -- field 802: each entry, the information of a package, obeys the rules of table 3
  pub packages : Each (ObeysTextAndNumberRulesOfInformation Index)
      (entries_in (entry_at_index v INDEX_PACKAGES_INDEX))
  -- field 803: the pattern of file names
  pub pattern : is_supported_pkgname_spec (text_in (entry_at_index v INDEX_PKGNAME_SPEC_INDEX)) ≡ true

-- the text is a name that a change may remove or write
abbrev pub IsNameAllowedInIntent : Plain → Type 0
IsNameAllowedInIntent v = is_name_allowed_in_intent (text_in v) ≡ true

-- a journal entry `v` obeys the rules of its fields: a change may remove or write each of its names
pub record ObeysTextAndNumberRulesOfIntent (v : Plain) : Type 0 where
  -- field 1001: the names that the change removes
  pub removals : Each IsNameAllowedInIntent (entries_in (entry_at_index v INTENT_REMOVALS_INDEX))
  -- field 1002: the names that the change writes
  pub writes : Each IsNameAllowedInIntent (entries_in (entry_at_index v INTENT_WRITES_INDEX))

-- the value of a payload with this table at its root obeys the rules of its fields
abbrev pub ObeysTextAndNumberRulesOfTable : Which → Plain → Type 0
ObeysTextAndNumberRulesOfTable Dep v = ObeysTextAndNumberRulesOfDependency v
ObeysTextAndNumberRulesOfTable Acl v = Unit {0}
ObeysTextAndNumberRulesOfTable PkgInfo v = ObeysTextAndNumberRulesOfInformation PkgInfo v
ObeysTextAndNumberRulesOfTable File v = ObeysTextAndNumberRulesOfFileInFolder File [] v
ObeysTextAndNumberRulesOfTable Dir v = ObeysTextAndNumberRulesOfFolder Dir v
ObeysTextAndNumberRulesOfTable Scripts v = Unit {0}
ObeysTextAndNumberRulesOfTable Package v = ObeysTextAndNumberRulesOfPackage Package v
ObeysTextAndNumberRulesOfTable Index v = ObeysTextAndNumberRulesOfIndex v
ObeysTextAndNumberRulesOfTable Idb v =
    Each (ObeysTextAndNumberRulesOfPackage Idb) (entries_in (entry_at_index v IDB_PACKAGES_INDEX))
ObeysTextAndNumberRulesOfTable Intent v = ObeysTextAndNumberRulesOfIntent v
