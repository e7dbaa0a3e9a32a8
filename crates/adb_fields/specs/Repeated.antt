-- The cause that reports a repeated name in a container, for each kind of names. The rule is in the table of
-- `docs/formats.md`, "Names that stand twice".
use Rattle.std.specs.Prelude.{ℕ, ◌+◌, ◌*◌, List, [], ◌∷◌, ◌++◌, map, Option, None, option_map}
use Rattle.std.specs.Option.{option_or}
use Rattle.std.specs.List.{flat_map}
use Rattle.base_core.specs.declared.cause.Cause.{Cause}
use Rattle.base_core.specs.declared.cause.Cause.TheVariants.{Repeated}
use Rattle.adb_view.specs.Plain.{Plain, Plains, none, more}
use Rattle.adb_view.specs.FieldIndexes.{DIR_FILES_INDEX, DIR_NAME_INDEX, FILE_NAME_INDEX, IDB_PACKAGES_INDEX, INTENT_REMOVALS_INDEX, INTENT_WRITES_INDEX, PACKAGE_INFO_INDEX, PACKAGE_PATHS_INDEX}
use Rattle.adb_view.specs.Schema.{table_number}
use Rattle.adb_view.specs.Values.{entries_in, entry_at_index, text_in}
use Rattle.adb_fields.specs.Paths.{path_of}
use Rattle.adb_fields.specs.Pairs.{NameWithPosition, least_pair_of_equal_names, least_pair}
use Rattle.adb_fields.specs.declared.pairs.Pair.{Pair}
use Rattle.adb_view.specs.declared.tables.Which.{Which}
use Rattle.adb_view.specs.declared.tables.Which.TheVariants.{File, Dir, Package, Idb, Intent}

-- ---- lists of names

-- names at consecutive positions, the first of them at position n
abbrev pub numbered_from : ℕ → List (List ℕ) → List NameWithPosition
numbered_from n [] = []
numbered_from n (name ∷ names) = record { name = name; position = n } ∷ numbered_from (n + 1) names

-- the pair of positions at which a list has the same name; of all such pairs the one that is reported. None if each
-- name occurs once
abbrev pub least_positions_of_name_twice_in_list : List (List ℕ) → Option Pair
least_positions_of_name_twice_in_list names = least_pair_of_equal_names (numbered_from 1 names)

-- the pair of positions at which one of several lists has the same name; of all such pairs the one that is
-- reported. None if in each list each name occurs once
abbrev pub least_positions_of_name_twice_in_one_list : List (List (List ℕ)) → Option Pair
least_positions_of_name_twice_in_one_list lists =
    least_pair (map least_positions_of_name_twice_in_list lists)

-- these names, all of them at position n
abbrev pub names_all_at_position : ℕ → List (List ℕ) → List NameWithPosition
names_all_at_position n names = map (λ name. record { name = name; position = n }) names

-- the names of several lists, each with the position of its list; the first list has position n
abbrev pub names_with_list_positions : ℕ → List (List (List ℕ)) → List NameWithPosition
names_with_list_positions n [] = []
names_with_list_positions n (names ∷ lists) =
    names_all_at_position n names ++ names_with_list_positions (n + 1) lists

-- the pair of positions of two lists that share a name; of all such pairs the one that is reported. None if no two
-- lists share one
abbrev pub least_pair_of_lists_sharing_a_name : List (List (List ℕ)) → Option Pair
least_pair_of_lists_sharing_a_name lists = least_pair_of_equal_names (names_with_list_positions 1 lists)

-- ---- the names of a container

-- the values of an array or an object as a list
abbrev pub list_of : Plains → List Plain
list_of none = []
list_of (more v vs) = v ∷ list_of vs

-- the entries of an object's field that is an array; `i` is the field's index, which counts from 0
abbrev pub entries_of_field_at_index : ℕ → Plain → List Plain
entries_of_field_at_index i v = list_of (entries_in (entry_at_index v i))

-- the index of *name* in a folder, a file and a package's information: the first field of each
abbrev pub NAME_INDEX : ℕ
NAME_INDEX = 0

-- the name of a folder, a file or a package's information
abbrev pub name_of : Plain → List ℕ
name_of v = text_in (entry_at_index v NAME_INDEX)

-- the name of a package
abbrev pub package_name : Plain → List ℕ
package_name pkg = name_of (entry_at_index pkg PACKAGE_INFO_INDEX)

-- the folders that a package lists
abbrev pub folders_in : Plain → List Plain
folders_in pkg = entries_of_field_at_index PACKAGE_PATHS_INDEX pkg

-- the files that a folder lists
abbrev pub files_in : Plain → List Plain
files_in folder = entries_of_field_at_index DIR_FILES_INDEX folder

-- the paths of the files of a folder
abbrev pub paths_of_folder_files : Plain → List (List ℕ)
paths_of_folder_files folder = map (λ file. path_of (name_of folder) (name_of file)) (files_in folder)

-- the paths of all files of a package
abbrev pub paths_of_package_files : Plain → List (List ℕ)
paths_of_package_files pkg = flat_map paths_of_folder_files (folders_in pkg)

-- ---- the pairs of each kind of names

-- the pair of positions in the field *paths* of one of these packages, at which the package lists the same folder; of
-- all such pairs the one that is reported
abbrev pub positions_of_folder_repeated_in_a_package : List Plain → Option Pair
positions_of_folder_repeated_in_a_package packages =
    least_positions_of_name_twice_in_one_list (map (λ pkg. map name_of (folders_in pkg)) packages)

-- the pair of positions in the field *files* of a folder of one of these packages, at which the folder lists the same
-- file; of all such pairs the one that is reported
abbrev pub positions_of_file_repeated_in_a_folder : List Plain → Option Pair
positions_of_file_repeated_in_a_folder packages = least_positions_of_name_twice_in_one_list
    (flat_map (λ pkg. map (λ folder. map name_of (files_in folder)) (folders_in pkg)) packages)

-- the pair of positions of two packages of a database that have the same name; of all such pairs the one that is
-- reported
abbrev pub positions_of_repeated_package_name : List Plain → Option Pair
positions_of_repeated_package_name packages =
    least_positions_of_name_twice_in_list (map package_name packages)

-- the pair of positions of two packages that list the same path; of all such pairs the one that is reported
abbrev pub pair_of_packages_listing_one_path : List Plain → Option Pair
pair_of_packages_listing_one_path packages =
    least_pair_of_lists_sharing_a_name (map paths_of_package_files packages)

-- the pair of positions at which the list of a journal entry's removals, followed by its writes, has the same name; of
-- all such pairs the one that is reported
abbrev pub positions_of_repeated_intent_name : Plain → Option Pair
positions_of_repeated_intent_name intent = least_positions_of_name_twice_in_list
    (map text_in (entries_of_field_at_index INTENT_REMOVALS_INDEX intent)
    ++ map text_in (entries_of_field_at_index INTENT_WRITES_INDEX intent))

-- ---- the fault of a container

-- the number by which causes name the field of the table `which` with this index, which counts from 0
abbrev pub place_in_causes_of_field_at_index : Which → ℕ → ℕ
place_in_causes_of_field_at_index which index = 100 * table_number which + (index + 1)

-- the cause that reports a pair of positions, if there is one; `number` is the number in causes of the field whose
-- texts must not repeat
abbrev pub repeated_cause : ℕ → Option Pair → Option Cause
repeated_cause number pair = option_map (λ p. Repeated number p.first p.second) pair

-- the cause if one of these packages lists a folder twice, or else if one of its folders lists a file
-- twice
abbrev pub fault_of_repeats_within_one_of_packages : List Plain → Option Cause
fault_of_repeats_within_one_of_packages packages =
    option_or (repeated_cause (place_in_causes_of_field_at_index Dir DIR_NAME_INDEX)
    (positions_of_folder_repeated_in_a_package packages))
    (repeated_cause (place_in_causes_of_field_at_index File FILE_NAME_INDEX)
    (positions_of_file_repeated_in_a_folder packages))

-- the cause if two of these packages have the same name, or else if two list the same path
abbrev pub fault_of_two_packages_sharing_name_or_path : List Plain → Option Cause
fault_of_two_packages_sharing_name_or_path packages =
    option_or (repeated_cause (place_in_causes_of_field_at_index Idb IDB_PACKAGES_INDEX)
    (positions_of_repeated_package_name packages))
    (repeated_cause (place_in_causes_of_field_at_index File FILE_NAME_INDEX)
    (pair_of_packages_listing_one_path packages))

-- the cause that reports a repeated name in the value of a container, whose root has the table `which`. The kinds of
-- names are searched in this order, and the first kind with a repeated name is reported
unfoldable pub repeated_fault : Which → Plain → Option Cause
repeated_fault Package v = fault_of_repeats_within_one_of_packages (v ∷ [])
repeated_fault Idb v =
    option_or (fault_of_repeats_within_one_of_packages (entries_of_field_at_index IDB_PACKAGES_INDEX v))
    (fault_of_two_packages_sharing_name_or_path (entries_of_field_at_index IDB_PACKAGES_INDEX v))
repeated_fault Intent v =
    repeated_cause (place_in_causes_of_field_at_index Intent INTENT_WRITES_INDEX)
    (positions_of_repeated_intent_name v)
repeated_fault which v = None
