-- A record of a text database: its lines on one package, on its folders and on their files.
-- The rules are in `docs/formats.md`, "Text database of version 2", the table and the two paragraphs
-- after it.
use Rattle.std.specs.Prelude.{ℕ, Bool, true, false, not, ◌&&◌, ◌||◌, ◌==◌, if◌then◌else◌, List, [], ◌∷◌, ◌++◌, Option, Some, None, option_map, is_some}
use Rattle.std.specs.List.{list_any}
use Rattle.make_info.specs.Fields.{TextNumberOrDependency}
use Rattle.v2_core.specs.Accesses.{Access}
use Rattle.v2_core.specs.InfoFields.{is_list_info_field, letter_of}
use Rattle.v2_core.specs.Lines.{RecordLine, info_line, folder_line, folder_access_line, file_line, file_access_line, file_hash_line, other_line}
use Rattle.v2_core.specs.declared.field.InfoField.{InfoField}
use Rattle.v2_core.specs.declared.field.InfoField.TheVariants as Fields

-- one line of a record on a field of the package, and the values in the line
pub record InfoLine : Type 0 where
  -- the field of the package
  pub field : InfoField
  -- the values that the line gives
  pub values : List TextNumberOrDependency

-- a file, by the lines of a record
pub record ListedFile : Type 0 where
  -- the name of the file: one part of a path
  pub name : List ℕ
  -- the owner and mode, if a line gave them
  pub access : Option Access
  -- the SHA-1 of the bytes of the file, if a line gave it
  pub hash : Option (List ℕ)

-- a folder, with its files in the order of their lines
pub record ListedFolder : Type 0 where
  -- the path of the folder; empty for the root folder
  pub name : List ℕ
  -- the owner and mode, if a line gave them
  pub access : Option Access
  -- the files of the folder, in the order of their lines
  pub files : List ListedFile

-- a record: whether it has a line, and the meaning of its lines; further lines belong to the last
-- folder and its last file
pub record Record : Type 0 where
  -- whether the record has a line
  pub has_line : Bool
  -- the lines on the package, in their order
  pub info : List InfoLine
  -- the folders, in the order of their lines
  pub folders : List ListedFolder

-- a record by its parts
abbrev pub record_from_parts : Bool → List InfoLine → List ListedFolder → Record
record_from_parts has_line info folders =
    record { has_line = has_line; info = info; folders = folders }

-- a record before its first line
abbrev pub empty_record : Record
empty_record = record_from_parts false [] []

-- a line on a field, by its parts
abbrev pub info_line_from_parts : InfoField → List TextNumberOrDependency → InfoLine
info_line_from_parts f values = record { field = f; values = values }

-- a file by its parts
abbrev pub listed_file_from_parts : List ℕ → Option Access → Option (List ℕ) → ListedFile
listed_file_from_parts name access hash = record { name = name; access = access; hash = hash }

-- a folder by its parts
abbrev pub listed_folder_from_parts : List ℕ → Option Access → List ListedFile → ListedFolder
listed_folder_from_parts name access files = record { name = name; access = access; files = files }

-- ---- one more line; None if the line is not allowed there

-- whether a line is of a field
abbrev pub is_line_of_field : InfoField → InfoLine → Bool
is_line_of_field f line = letter_of line.field == letter_of f

-- whether one of these lines is of the field
abbrev pub has_line_of_field : InfoField → List InfoLine → Bool
has_line_of_field f info = list_any (is_line_of_field f) info

-- the lines on the package with one more line of the field `f`; None if it is a second line of a field
-- that is no list
abbrev pub with_info_values : InfoField → List TextNumberOrDependency → List InfoLine
    → Option (List InfoLine)
with_info_values f values info =
    if not (is_list_info_field f) && has_line_of_field f info then None
    else Some (info ++ info_line_from_parts f values ∷ [])

-- a list whose last element was replaced by the result of `change`; None if the list is empty, or
-- `change` returns None
abbrev pub list_with_last_changed : {A : Type 0} → (A → Option A) → List A → Option (List A)
list_with_last_changed change [] = None
list_with_last_changed change (x ∷ []) = option_map (λ y. y ∷ []) (change x)
list_with_last_changed change (x ∷ y ∷ rest) =
    option_map (λ rest. x ∷ rest) (list_with_last_changed change (y ∷ rest))

-- a file with its owner and mode; None if it has them already
abbrev pub file_with_access : Access → ListedFile → Option ListedFile
file_with_access a file =
    if is_some file.access then None else Some (listed_file_from_parts file.name (Some a) file.hash)

-- a file with its hash; None if it has one already
abbrev pub file_with_hash : List ℕ → ListedFile → Option ListedFile
file_with_hash hash file =
    if is_some file.hash then None else Some (listed_file_from_parts file.name file.access (Some hash))

-- a folder with its owner and mode; None if it has them already
abbrev pub folder_with_access : Access → ListedFolder → Option ListedFolder
folder_with_access a folder =
    if is_some folder.access then None else Some
    (listed_folder_from_parts folder.name (Some a) folder.files)

-- a folder with these files in place of its own
abbrev pub folder_with_files : ListedFolder → List ListedFile → ListedFolder
folder_with_files folder files = listed_folder_from_parts folder.name folder.access files

-- a folder with one more file, of which only the name is known
abbrev pub folder_with_file : List ℕ → ListedFolder → Option ListedFolder
folder_with_file name folder =
    Some (folder_with_files folder (folder.files ++ listed_file_from_parts name None None ∷ []))

-- a folder whose last file was replaced by the result of `change`; None if it has no file, or `change`
-- returns None
abbrev pub folder_with_last_file_changed : (ListedFile → Option ListedFile) → ListedFolder
    → Option ListedFolder
folder_with_last_file_changed change folder =
    option_map (folder_with_files folder) (list_with_last_changed change folder.files)

-- some folders with one more line. The line adds a folder, or belongs to the last folder or to the last file of
-- that folder; None if it is not allowed there. Any other line changes nothing
abbrev pub with_path_line : RecordLine → List ListedFolder → Option (List ListedFolder)
with_path_line (info_line f values) folders = Some folders
with_path_line (folder_line name) folders = Some (folders ++ listed_folder_from_parts name None [] ∷ [])
with_path_line (folder_access_line a) folders = list_with_last_changed (folder_with_access a) folders
with_path_line (file_line name) folders = list_with_last_changed (folder_with_file name) folders
with_path_line (file_access_line a) folders =
    list_with_last_changed (folder_with_last_file_changed (file_with_access a)) folders
with_path_line (file_hash_line hash) folders =
    list_with_last_changed (folder_with_last_file_changed (file_with_hash hash)) folders
with_path_line other_line folders = Some folders

-- the lines on the package with one more line; None if it is not allowed there. A line that is not on
-- the package changes nothing
abbrev pub with_info_line : RecordLine → List InfoLine → Option (List InfoLine)
with_info_line (info_line f values) info = with_info_values f values info
with_info_line line info = Some info

-- a record with these lines on the package and these folders; None if the lines or the folders are None (the
-- added line was not allowed)
abbrev pub record_if_both_parts : Option (List InfoLine) → Option (List ListedFolder) → Option Record
record_if_both_parts None folders = None
record_if_both_parts (Some info) None = None
record_if_both_parts (Some info) (Some folders) = Some (record_from_parts true info folders)

-- a record with one more line; None if the line is not allowed there
abbrev pub with_record_line : Record → RecordLine → Option Record
with_record_line r line =
    record_if_both_parts (with_info_line line r.info) (with_path_line line r.folders)

-- whether the line of the package's name or that of its version is missing
abbrev pub lacks_name_or_version_line : List InfoLine → Bool
lacks_name_or_version_line info =
    not (has_line_of_field Fields.Name info) || not (has_line_of_field Fields.Version info)
