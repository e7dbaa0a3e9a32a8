-- The database that lists members: of each its folders, and the files that it owns. No integer in it is
-- 0.
-- The rules are in `docs/formats.md`, "The database after a change"; the fields in "Schemas", tables 5,
-- 7 and 9.
use Rattle.std.specs.Prelude.{ℕ, ◌+◌, Bool, true, false, List, [], ◌∷◌, Option, length, drop, unwrap_or, Result, Ok, Err}
use Rattle.adb_view.specs.Plain.{Plain, Plains, none, more, blob_or_null, array_or_null, trimmed_object_or_null}
use Rattle.adb_view.specs.FieldIndexes.{DIR_ACL_INDEX, INFO_FILE_SIZE_INDEX, INFO_HASHES_INDEX, PACKAGE_INFO_INDEX, PACKAGE_REPLACES_PRIORITY_INDEX, PACKAGE_SCRIPTS_INDEX, PACKAGE_TRIGGERS_INDEX}
use Rattle.adb_view.specs.Values.{entry_at_index, int_in, text_in}
use Rattle.adb_copy.specs.adb_fields.Repeated.{name_of, folders_in, files_in}
use Rattle.adb_sound.specs.adb_schema.declared.read.TheConstants.{IDB_WORD}
use Rattle.adb_sound.specs.adb_write.Canonical.{ByteAndValueCounts, payload_or_counts_at_overflow}
use Rattle.adb_sound.specs.adb_write.File.{file_of}
use Rattle.adb_copy.specs.Zeros.{info_without_zeros_with_id_and_file_size, int_or_null, without_zeros}
use Rattle.db_core.specs.Members.{Member}

-- ---- by flags, one for each file in its order

-- the entries, without zeros, of those files whose flag is set, by one flag for each file; a file without a flag
-- is left out
abbrev pub owned_entries_without_zeros : List Plain → List Bool → Plains
owned_entries_without_zeros [] flags = none
owned_entries_without_zeros (file ∷ files) [] = none
owned_entries_without_zeros (file ∷ files) (true ∷ flags) =
    more (without_zeros file) (owned_entries_without_zeros files flags)
owned_entries_without_zeros (file ∷ files) (false ∷ flags) = owned_entries_without_zeros files flags

-- the values that the function `value` computes of each element of a list and the flags from the element's first
-- flag on; `count` says how many flags each element has
abbrev pub values_by_successive_flags :
    {X : Type 0} → (X → ℕ) → (X → List Bool → Plain) → List X → List Bool → Plains
values_by_successive_flags count value [] flags = none
values_by_successive_flags count value (x ∷ xs) flags =
    more (value x flags) (values_by_successive_flags count value xs (drop (count x) flags))

-- how many of something the elements of a list have in all
abbrev pub total_of : {X : Type 0} → (X → ℕ) → List X → ℕ
total_of count [] = 0
total_of count (x ∷ xs) = count x + total_of count xs

-- ---- folders

-- how many files a folder has, and so how many flags
abbrev pub folder_file_count : Plain → ℕ
folder_file_count folder = length (files_in folder)

-- a folder in the new database: its name, its access list, and those of its files whose flag is set
abbrev pub folder_in_new_database : Plain → List Bool → Plain
folder_in_new_database folder flags =
    trimmed_object_or_null (more (blob_or_null (name_of folder))
    (more (without_zeros (entry_at_index folder DIR_ACL_INDEX))
    (more (array_or_null (owned_entries_without_zeros (files_in folder) flags)) none)))

-- the folders of a package in the new database; each takes as many flags as it has files
abbrev pub folders_in_new_database : List Plain → List Bool → Plains
folders_in_new_database folders flags =
    values_by_successive_flags folder_file_count folder_in_new_database folders flags

-- ---- packages

-- how many files a member lists, and so how many flags it has
abbrev pub member_file_count : Member → ℕ
member_file_count m = total_of folder_file_count (folders_in m.pkg)

-- the information of a package in the new database: `info` without zeros. The hash of an added package is its id;
-- a kept package has no id, and keeps its hash
abbrev pub info_in_new_database : Option (List ℕ) → Plain → Plain
info_in_new_database id info =
    info_without_zeros_with_id_and_file_size info
    (unwrap_or id (text_in (entry_at_index info INFO_HASHES_INDEX)))
    (int_in (entry_at_index info INFO_FILE_SIZE_INDEX))

-- a package in the new database, with the fields of table 7 in order: its information, its folders, its scripts, its
-- triggers, and its priority in replacing
abbrev pub package_in_new_database : Member → List Bool → Plain
package_in_new_database m flags =
    trimmed_object_or_null (more (info_in_new_database m.id (entry_at_index m.pkg PACKAGE_INFO_INDEX))
    (more (array_or_null (folders_in_new_database (folders_in m.pkg) flags))
    (more (without_zeros (entry_at_index m.pkg PACKAGE_SCRIPTS_INDEX))
    (more (without_zeros (entry_at_index m.pkg PACKAGE_TRIGGERS_INDEX))
    (more (int_or_null (int_in (entry_at_index m.pkg PACKAGE_REPLACES_PRIORITY_INDEX))) none)))))

-- the packages of the new database, each with the flags of its own files
abbrev pub packages_in_new_database : List Member → List Bool → Plains
packages_in_new_database members flags =
    values_by_successive_flags member_file_count package_in_new_database members flags

-- ---- the database

-- the value of the new database, by its members and one flag for each file that they list
unfoldable pub database_value : List Member → List Bool → Plain
database_value members flags =
    trimmed_object_or_null (more (array_or_null (packages_in_new_database members flags)) none)

-- the file of a database with this payload; or the counts, if the payload exceeds a limit of the writer
abbrev pub database_file_of_payload_unless_too_large : Result (List ℕ) ByteAndValueCounts
    → Result (List ℕ) ByteAndValueCounts
database_file_of_payload_unless_too_large (Ok payload) = Ok (file_of IDB_WORD payload)
database_file_of_payload_unless_too_large (Err counts) = Err counts

-- the file of the new database, or the counts of the writer at the first value that exceeds a limit
unfoldable pub database_of : List Member → List Bool → Result (List ℕ) ByteAndValueCounts
database_of members flags =
    database_file_of_payload_unless_too_large (payload_or_counts_at_overflow (database_value members flags))
