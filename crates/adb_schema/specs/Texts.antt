-- The rules of the texts and numbers of a container, each under the number of its field, and the first
-- that is broken. The number of a field is 100 times that of its table plus its own in the table. The
-- rules are in the table of `docs/formats.md`, "The texts"; their order is that of the visits ("The
-- shape").
use Rattle.std.specs.Prelude.{ℕ, ◌+◌, ◌*◌, ◌==◌, nat_lt, Bool, true, false, not, ◌&&◌, if◌then◌else◌, List, [], ◌∷◌, ◌++◌, length, Option, Some, None}
use Rattle.version_core.specs.Order.{is_version}
use Rattle.dep_core.specs.Dependency.{is_dependency_name_by_bytes_and_length, is_package_name}
use Rattle.dep_core.specs.Value.{is_match_number, is_version_or_empty}
use Rattle.base_core.specs.declared.cause.Cause.{Cause}
use Rattle.base_core.specs.declared.cause.Cause.TheVariants.{BadText}
use Rattle.adb_view.specs.Plain.{Plain, null, Plains, none, more, Shape, number, text, hash, array, object, Fields, no_fields, field}
use Rattle.adb_schema.specs.Reserved.{is_reserved}
use Rattle.adb_fields.specs.Paths.{path_of}
use Rattle.adb_fields.specs.Repeated.{place_in_causes_of_field_at_index}
use Rattle.adb_schema.specs.Rules.{is_name_allowed_in_intent, is_digest_length, is_digest_length_or_none, is_valid_file_name_in_folder, is_folder_name, is_id_length, is_supported_pkgname_spec, is_link_target_or_none}
use Rattle.adb_view.specs.FieldIndexes.{DEP_MATCH_INDEX, DEP_NAME_INDEX, DEP_VERSION_INDEX, DIR_NAME_INDEX, FILE_HASHES_INDEX, FILE_NAME_INDEX, FILE_SIZE_INDEX, FILE_TARGET_INDEX, INDEX_PKGNAME_SPEC_INDEX, INFO_HASHES_INDEX, INFO_NAME_INDEX, INFO_VERSION_INDEX, INTENT_REMOVALS_INDEX, INTENT_WRITES_INDEX}
use Rattle.adb_view.specs.Schema.{shape_of, table_number}
use Rattle.adb_view.specs.Values.{entries_in, entry_at_index, int_in, text_in}
use Rattle.adb_view.specs.declared.tables.Which.{Which}
use Rattle.adb_view.specs.declared.tables.Which.TheVariants.{Dep, PkgInfo, File, Dir, Index, Idb, Intent}
use Rattle.adb_view.specs.declared.tables.Kind.TheVariants.{Obj}

-- where in a container a value is, as far as the rule of some field depends on it
pub record Surroundings : Type 0 where
  -- the table of the container's root
  pub root : Which
  -- the path of the folder that the value is in; empty outside of folders, and in the root folder
  pub folder : List ℕ
  -- whether the file that the value is in has contents; false outside of files
  pub has_contents : Bool

-- ---- rules that depend on the surroundings

-- whether a package's hash may have this length in bytes, in a container with this table at its root:
-- in an index each package has its hash
abbrev pub is_package_hash_length : Which → ℕ → Bool
is_package_hash_length Index len = is_id_length len
is_package_hash_length root len = is_digest_length_or_none len

-- whether a container with this table at its root may list a file under the path. A database may list
-- none under a reserved name, since no change may remove one as a package's file
abbrev pub is_path_unreserved_if_in_database : Which → List ℕ → Bool
is_path_unreserved_if_in_database Idb path = not (is_reserved path)
is_path_unreserved_if_in_database root path = true

-- whether a file in these surroundings may have this name: in their folder, and in a container with
-- their root
abbrev pub is_allowed_file_name : Surroundings → List ℕ → Bool
is_allowed_file_name around name = is_valid_file_name_in_folder around.folder name
    && is_path_unreserved_if_in_database around.root (path_of around.folder name)

-- whether a file needs a hash: one with contents does, except in a database, which may be imported from
-- a text database
abbrev pub is_file_hash_needed_unless_in_database : Which → Bool → Bool
is_file_hash_needed_unless_in_database Idb has_contents = false
is_file_hash_needed_unless_in_database root has_contents = has_contents

-- whether a file's hash may have this length in bytes: that of a digest, or 0 if no hash is needed
abbrev pub is_file_hash_length : Surroundings → ℕ → Bool
is_file_hash_length around len =
    if is_file_hash_needed_unless_in_database around.root around.has_contents then is_digest_length len
    else is_digest_length_or_none len

-- ---- the rule of each field

-- whether the number `n` obeys the rule of the field with the number `place`. This is 100 times the number of the
-- field's table, plus the number of the field in it. Only the match number of a dependency has a rule
abbrev pub is_allowed_number_of_field : ℕ → ℕ → Bool
is_allowed_number_of_field place n =
    if place == place_in_causes_of_field_at_index Dep DEP_MATCH_INDEX then is_match_number n else true

-- whether a text obeys the rule of the field with the number `place` (as in *is_allowed_number_of_field*); fields
-- that are not listed here have no rule
unfoldable pub is_allowed_text_of_field : ℕ → Surroundings → List ℕ → Bool
is_allowed_text_of_field place around bytes =
    if place == place_in_causes_of_field_at_index Dep DEP_NAME_INDEX then is_dependency_name_by_bytes_and_length bytes
    else if place == place_in_causes_of_field_at_index Dep DEP_VERSION_INDEX then is_version_or_empty bytes
    else if place == place_in_causes_of_field_at_index PkgInfo INFO_NAME_INDEX then is_package_name bytes
    else if place == place_in_causes_of_field_at_index PkgInfo INFO_VERSION_INDEX then is_version bytes
    else if place == place_in_causes_of_field_at_index PkgInfo INFO_HASHES_INDEX then is_package_hash_length around.root
    (length bytes)
    else if place == place_in_causes_of_field_at_index File FILE_NAME_INDEX then is_allowed_file_name around bytes
    else if place == place_in_causes_of_field_at_index File FILE_HASHES_INDEX then is_file_hash_length around (length bytes)
    else if place == place_in_causes_of_field_at_index File FILE_TARGET_INDEX then is_link_target_or_none bytes
    else if place == place_in_causes_of_field_at_index Dir DIR_NAME_INDEX then is_folder_name bytes
    else if place == place_in_causes_of_field_at_index Index INDEX_PKGNAME_SPEC_INDEX then is_supported_pkgname_spec bytes
    else if place == place_in_causes_of_field_at_index Intent INTENT_REMOVALS_INDEX then is_name_allowed_in_intent bytes
    else if place == place_in_causes_of_field_at_index Intent INTENT_WRITES_INDEX then is_name_allowed_in_intent bytes
    else true

-- ---- the leaves of the walk, in order

-- a leaf: a number with the number of its field (`number_leaf field n`), or a text with the number of its
-- field and its surroundings (`text_leaf field around bytes`). A Null is the number 0 or an empty text
pub data Leaf : Type 0 where
  number_leaf : ℕ → ℕ → Leaf
  text_leaf : ℕ → Surroundings → List ℕ → Leaf

-- whether a number or a text obeys the rule of its field
abbrev pub keeps_rule : Leaf → Bool
keeps_rule (number_leaf field_place_in_causes n) = is_allowed_number_of_field field_place_in_causes n
keeps_rule (text_leaf field_place_in_causes around bytes) =
    is_allowed_text_of_field field_place_in_causes around bytes

-- the number of the field that has this number or text
abbrev pub field_number_of_leaf : Leaf → ℕ
field_number_of_leaf (number_leaf field_place_in_causes n) = field_place_in_causes
field_number_of_leaf (text_leaf field_place_in_causes around bytes) = field_place_in_causes

-- whether a file has contents: it has no target, and a size above 0
abbrev pub is_file_with_contents : Plain → Bool
is_file_with_contents file = (length (text_in (entry_at_index file FILE_TARGET_INDEX)) == 0)
    && nat_lt 0 (int_in (entry_at_index file FILE_SIZE_INDEX))

-- the surroundings of the fields of the object `v`, by the number of its table (`schema`) and the surroundings
-- of the object (`around`). A folder sets the path, and a file sets whether there are contents
abbrev pub surroundings_of_fields : ℕ → Surroundings → Plain → Surroundings
surroundings_of_fields schema around v = record {
  root = around.root;
  folder = if schema == table_number Dir then text_in (entry_at_index v DIR_NAME_INDEX) else around.folder;
  has_contents = if schema == table_number File then is_file_with_contents v else around.has_contents;
}

-- the numbers and texts in some values, in order; `f` returns those in one value
abbrev pub leaves_of_all_values : (Plain → List Leaf) → Plains → List Leaf
leaves_of_all_values f none = []
leaves_of_all_values f (more v vs) = f v ++ leaves_of_all_values f vs

-- the numbers and texts in the value of a field, by the value's shape and the field's number, depth first.
-- An object has those of each field of its table; a missing field is Null
unfoldable mutual
  pub leaves : Shape → ℕ → Surroundings → Plain → List Leaf
  leaves number field_place_in_causes around v = number_leaf field_place_in_causes (int_in v) ∷ []
  leaves text field_place_in_causes around v = text_leaf field_place_in_causes around (text_in v) ∷ []
  leaves hash field_place_in_causes around v = text_leaf field_place_in_causes around (text_in v) ∷ []
  leaves (array s) field_place_in_causes around v =
      leaves_of_all_values (leaves s field_place_in_causes around) (entries_in v)
  leaves (object schema fs) field_place_in_causes around v = field_leaves fs (100 * schema + 1)
      (surroundings_of_fields schema around v) (entries_in v)

  -- the numbers and texts of the fields of an object. The first field has the number `field_place_in_causes`, and
  -- `around` are the surroundings of each field
  pub field_leaves : Fields → ℕ → Surroundings → Plains → List Leaf
  field_leaves no_fields field_place_in_causes around vs = []
  field_leaves (field name s fs) field_place_in_causes around none =
      leaves s field_place_in_causes around null
      ++ field_leaves fs (field_place_in_causes + 1) around none
  field_leaves (field name s fs) field_place_in_causes around (more v vs) =
      leaves s field_place_in_causes around v
      ++ field_leaves fs (field_place_in_causes + 1) around vs

-- the surroundings of the root: no folder and no file
abbrev pub surroundings_of_root : Which → Surroundings
surroundings_of_root which = record { root = which; folder = []; has_contents = false }

-- the numbers and texts of a container with this table at its root
abbrev pub leaves_of : Which → Plain → List Leaf
leaves_of which v = leaves (shape_of (Obj which)) 0 (surroundings_of_root which) v

-- ---- the first fault

-- the cause for the first leaf that breaks the rule of its field, with the number of this field; None if each
-- leaf obeys its rule
abbrev pub first_bad_leaf : List Leaf → Option Cause
first_bad_leaf [] = None
first_bad_leaf (leaf ∷ others) = if keeps_rule leaf then first_bad_leaf others
    else Some (BadText (field_number_of_leaf leaf))

-- the cause of the first text or number of a container that breaks its rule
abbrev pub text_or_number_fault : Which → Plain → Option Cause
text_or_number_fault which v = first_bad_leaf (leaves_of which v)
