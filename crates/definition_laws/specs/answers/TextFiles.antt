-- Which folders and files the lines of a text database list. The rules are in `docs/formats.md`, "Text
-- database of version 2", the rows F, M, R, a and Z. Serves the laws of `src/listed.rt`.
use Rattle.std.specs.Prelude.{ℕ, List, [], ◌∷◌, Option, Some, None}
use Rattle.change_outcome.specs.v2_core.Records.{ListedFile, ListedFolder, listed_file_from_parts, listed_folder_from_parts}
use Rattle.change_outcome.specs.v2_core.Accesses.{Access}
use Rattle.change_outcome.specs.v2_core.Lines.{RecordLine, file_access_line, file_hash_line, file_line, folder_access_line, folder_line, info_line, other_line}

-- the lines before the first line that begins a folder; all lines if none does
abbrev pub lines_up_to_folder : List RecordLine → List RecordLine
lines_up_to_folder [] = []
lines_up_to_folder (info_line f values ∷ lines) = info_line f values ∷ lines_up_to_folder lines
lines_up_to_folder (folder_line name ∷ lines) = []
lines_up_to_folder (folder_access_line a ∷ lines) = folder_access_line a ∷ lines_up_to_folder lines
lines_up_to_folder (file_line name ∷ lines) = file_line name ∷ lines_up_to_folder lines
lines_up_to_folder (file_access_line a ∷ lines) = file_access_line a ∷ lines_up_to_folder lines
lines_up_to_folder (file_hash_line hash ∷ lines) = file_hash_line hash ∷ lines_up_to_folder lines
lines_up_to_folder (other_line ∷ lines) = other_line ∷ lines_up_to_folder lines

-- the lines before the first line that begins a file; all lines if none does
abbrev pub lines_up_to_file : List RecordLine → List RecordLine
lines_up_to_file [] = []
lines_up_to_file (info_line f values ∷ lines) = info_line f values ∷ lines_up_to_file lines
lines_up_to_file (folder_line name ∷ lines) = folder_line name ∷ lines_up_to_file lines
lines_up_to_file (folder_access_line a ∷ lines) = folder_access_line a ∷ lines_up_to_file lines
lines_up_to_file (file_line name ∷ lines) = []
lines_up_to_file (file_access_line a ∷ lines) = file_access_line a ∷ lines_up_to_file lines
lines_up_to_file (file_hash_line hash ∷ lines) = file_hash_line hash ∷ lines_up_to_file lines
lines_up_to_file (other_line ∷ lines) = other_line ∷ lines_up_to_file lines

-- the access (mode, user, group) of a folder, from the first of these lines that gives one; None if no line does
abbrev pub folder_access_in : List RecordLine → Option Access
folder_access_in [] = None
folder_access_in (info_line f values ∷ lines) = folder_access_in lines
folder_access_in (folder_line name ∷ lines) = folder_access_in lines
folder_access_in (folder_access_line a ∷ lines) = Some a
folder_access_in (file_line name ∷ lines) = folder_access_in lines
folder_access_in (file_access_line a ∷ lines) = folder_access_in lines
folder_access_in (file_hash_line hash ∷ lines) = folder_access_in lines
folder_access_in (other_line ∷ lines) = folder_access_in lines

-- the access (mode, user, group) of a file, from the first of these lines that gives one; None if no line does
abbrev pub file_access_in : List RecordLine → Option Access
file_access_in [] = None
file_access_in (info_line f values ∷ lines) = file_access_in lines
file_access_in (folder_line name ∷ lines) = file_access_in lines
file_access_in (folder_access_line a ∷ lines) = file_access_in lines
file_access_in (file_line name ∷ lines) = file_access_in lines
file_access_in (file_access_line a ∷ lines) = Some a
file_access_in (file_hash_line hash ∷ lines) = file_access_in lines
file_access_in (other_line ∷ lines) = file_access_in lines

-- the hash of a file, from the first of these lines that gives one; None if no line does
abbrev pub file_hash_in : List RecordLine → Option (List ℕ)
file_hash_in [] = None
file_hash_in (info_line f values ∷ lines) = file_hash_in lines
file_hash_in (folder_line name ∷ lines) = file_hash_in lines
file_hash_in (folder_access_line a ∷ lines) = file_hash_in lines
file_hash_in (file_line name ∷ lines) = file_hash_in lines
file_hash_in (file_access_line a ∷ lines) = file_hash_in lines
file_hash_in (file_hash_line hash ∷ lines) = Some hash
file_hash_in (other_line ∷ lines) = file_hash_in lines

-- the files that the lines of a folder list: one file for each line that begins one (`file_line`), with the access and
-- the hash that the lines before the next file give
abbrev pub files_listed : List RecordLine → List ListedFile
files_listed [] = []
files_listed (info_line f values ∷ lines) = files_listed lines
files_listed (folder_line name ∷ lines) = files_listed lines
files_listed (folder_access_line a ∷ lines) = files_listed lines
files_listed (file_line name ∷ lines) =
    listed_file_from_parts name (file_access_in (lines_up_to_file lines))
    (file_hash_in (lines_up_to_file lines))
    ∷ files_listed lines
files_listed (file_access_line a ∷ lines) = files_listed lines
files_listed (file_hash_line hash ∷ lines) = files_listed lines
files_listed (other_line ∷ lines) = files_listed lines

-- the folders that the lines of a record list: one folder for each line that begins one (`folder_line`), with the
-- access and the files that the lines before the next folder give
abbrev pub folders_of_record_lines : List RecordLine → List ListedFolder
folders_of_record_lines [] = []
folders_of_record_lines (info_line f values ∷ lines) = folders_of_record_lines lines
folders_of_record_lines (folder_line name ∷ lines) =
    listed_folder_from_parts name (folder_access_in (lines_up_to_folder lines))
    (files_listed (lines_up_to_folder lines))
    ∷ folders_of_record_lines lines
folders_of_record_lines (folder_access_line a ∷ lines) = folders_of_record_lines lines
folders_of_record_lines (file_line name ∷ lines) = folders_of_record_lines lines
folders_of_record_lines (file_access_line a ∷ lines) = folders_of_record_lines lines
folders_of_record_lines (file_hash_line hash ∷ lines) = folders_of_record_lines lines
folders_of_record_lines (other_line ∷ lines) = folders_of_record_lines lines
