-- The installed database of records (apk-v3(5)).
-- The rules are in `docs/formats.md`, "Text database of version 2"; the order of fields is in "Schemas",
-- tables 2 to 5, 7 and 9.
use Rattle.std.specs.Prelude.{ℕ, List, [], ◌∷◌, map, Option, Some, None, if◌then◌else◌}
use Rattle.std.specs.List.{find, flat_map}
use Rattle.adb_view.specs.Plain.{Plain, null, int, blob_or_null, array_or_null, trimmed_object_or_null}
use Rattle.make_info.specs.Fields.{TextNumberOrDependency}
use Rattle.make_info.specs.Information.{plain_value}
use Rattle.make_info.specs.Values.{plains_of_list}
use Rattle.v2_core.specs.Accesses.{Access}
use Rattle.v2_core.specs.declared.field.InfoField.{InfoField}
use Rattle.v2_core.specs.declared.field.InfoField.TheVariants as Fields
use Rattle.v2_core.specs.Records.{InfoLine, ListedFile, ListedFolder, Record, is_line_of_field}

-- the array of some values; Null if there are none
abbrev pub array_or_null_of_list : List Plain → Plain
array_or_null_of_list vs = array_or_null (plains_of_list vs)

-- the object of some values, without the last Nulls
abbrev pub trimmed_object_or_null_of_list : List Plain → Plain
trimmed_object_or_null_of_list vs = trimmed_object_or_null (plains_of_list vs)

-- ---- the package's information

-- the plain value of a field that takes one value; Null if its line gives none
abbrev pub value_of_first_or_null : List TextNumberOrDependency → Plain
value_of_first_or_null [] = null
value_of_first_or_null (v ∷ vs) = plain_value v

-- the plain value of the line of a field; Null if there is no line
abbrev pub value_of_line : Option InfoLine → Plain
value_of_line None = null
value_of_line (Some line) = value_of_first_or_null line.values

-- the value of a field of which a record has one line at most
abbrev pub value_of_single_line_field : InfoField → List InfoLine → Plain
value_of_single_line_field f info = value_of_line (find (is_line_of_field f) info)

-- the values of a line if the line is of this field, otherwise none
abbrev pub values_if_line_of_field : InfoField → InfoLine → List TextNumberOrDependency
values_if_line_of_field f line = if is_line_of_field f line then line.values else []

-- the array of all values that the lines of a field give
abbrev pub array_of_field_values : InfoField → List InfoLine → Plain
array_of_field_values f info =
    array_or_null_of_list (map plain_value (flat_map (values_if_line_of_field f) info))

-- the object of a package's information: the first 18 fields of table 3 in order. The 13th, file-size,
-- is Null, since the text does not have it, and so are the fields after these
unfoldable pub record_info_value : List InfoLine → Plain
record_info_value info =
    trimmed_object_or_null_of_list
    (value_of_single_line_field Fields.Name info ∷ value_of_single_line_field Fields.Version info
    ∷ value_of_single_line_field Fields.Hashes info
    ∷ value_of_single_line_field Fields.Description info ∷ value_of_single_line_field Fields.Arch info
    ∷ value_of_single_line_field Fields.License info ∷ value_of_single_line_field Fields.Origin info
    ∷ value_of_single_line_field Fields.Maintainer info ∷ value_of_single_line_field Fields.Url info
    ∷ value_of_single_line_field Fields.RepoCommit info ∷ value_of_single_line_field Fields.BuildTime info
    ∷ value_of_single_line_field Fields.InstalledSize info ∷ null
    ∷ value_of_single_line_field Fields.ProviderPriority info
    ∷ array_of_field_values Fields.Depends info ∷ array_of_field_values Fields.Provides info
    ∷ array_of_field_values Fields.Replaces info ∷ array_of_field_values Fields.InstallIf info ∷ [])

-- ---- folders and files

-- the object of an owner and mode (table 2): mode, user, group; Null if no line gives them
abbrev pub listed_access_value : Option Access → Plain
listed_access_value None = null
listed_access_value (Some a) =
    trimmed_object_or_null_of_list (int a.mode ∷ blob_or_null a.user ∷ blob_or_null a.group ∷ [])

-- the blob of a file's hash; Null if no line gives it
abbrev pub listed_hash_value : Option (List ℕ) → Plain
listed_hash_value None = null
listed_hash_value (Some hash) = blob_or_null hash

-- the object of a file (table 4): name, acl, size, mtime, hashes; size and mtime are Null, since the
-- text does not have them
abbrev pub listed_file_value : ListedFile → Plain
listed_file_value file =
    trimmed_object_or_null_of_list
    (blob_or_null file.name ∷ listed_access_value file.access ∷ null ∷ null
    ∷ listed_hash_value file.hash ∷ [])

-- the object of a folder (table 5): name, acl, files
abbrev pub listed_folder_value : ListedFolder → Plain
listed_folder_value folder =
    trimmed_object_or_null_of_list
    (blob_or_null folder.name ∷ listed_access_value folder.access
    ∷ array_or_null_of_list (map listed_file_value folder.files) ∷ [])

-- ---- packages

-- the object of a package (table 7): info, paths, scripts, triggers, replaces-priority; scripts and
-- triggers are Null, since the text has none
abbrev pub record_value : Record → Plain
record_value r =
    trimmed_object_or_null_of_list
    (record_info_value r.info ∷ array_or_null_of_list (map listed_folder_value r.folders) ∷ null ∷ null
    ∷ value_of_single_line_field Fields.ReplacesPriority r.info ∷ [])

-- the object of an installed database (table 9): a package for each record, in the order of the text
abbrev pub database_value_of_records : List Record → Plain
database_value_of_records records =
    trimmed_object_or_null_of_list (array_or_null_of_list (map record_value records) ∷ [])
