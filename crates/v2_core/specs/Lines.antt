-- The meaning of a line of a text database.
-- The rules are in `docs/formats.md`, "Text database of version 2", the table; by the paragraph above
-- it, a line with an unlisted letter is skipped.
use Rattle.std.specs.Prelude.{ℕ, ◌==◌, if◌then◌else◌, List, [], ◌∷◌, Option, Some, None, option_map}
use Rattle.adb_schema.specs.Rules.{is_folder_name, is_one_part}
use Rattle.make_info.specs.Fields.{TextNumberOrDependency}
use Rattle.v2_core.specs.Accesses.{Access, access_in}
use Rattle.v2_core.specs.InfoFields.{field_of_letter, grammar_of}
use Rattle.v2_core.specs.InfoValues.{sha1_in_text, values_under_grammar}
use Rattle.v2_core.specs.declared.field.InfoField.{InfoField}
use Rattle.v2_core.specs.declared.line.TheConstants.{MARK, FOLDER, FOLDER_ACCESS, FILE, FILE_ACCESS, FILE_HASH}

-- the meaning of a line: `info_line` is a field of the package and its values; `folder_line` begins a folder with
-- this path, and `file_line` a file of this name. The access lines have the owner and mode of the last folder or
-- file, and `file_hash_line` the SHA-1 of the last file. `other_line` is skipped
pub data RecordLine : Type 0 where
  info_line : InfoField → List TextNumberOrDependency → RecordLine
  folder_line : List ℕ → RecordLine
  folder_access_line : Access → RecordLine
  file_line : List ℕ → RecordLine
  file_access_line : Access → RecordLine
  file_hash_line : List ℕ → RecordLine
  other_line : RecordLine

-- the line that begins a folder of this name, which has to be a path, or empty
abbrev pub folder_line_if_path : List ℕ → Option RecordLine
folder_line_if_path name = if is_folder_name name then Some (folder_line name) else None

-- the line that begins a file of this name, which has to be one part of a path
abbrev pub file_line_if_one_part : List ℕ → Option RecordLine
file_line_if_one_part name = if is_one_part name then Some (file_line name) else None

-- the meaning of a line on the package itself, by its field and the text after its colon. A line with an unlisted
-- letter has no field, and is skipped
abbrev pub info_line_or_skipped_if_no_field : Option InfoField → List ℕ → Option RecordLine
info_line_or_skipped_if_no_field None value = Some other_line
info_line_or_skipped_if_no_field (Some f) value =
    option_map (info_line f) (values_under_grammar (grammar_of f) value)

-- the meaning of a line with this letter and this value; None if the value is not in the letter's
-- grammar
unfoldable pub record_line_or_skipped_if_letter_unknown : ℕ → List ℕ → Option RecordLine
record_line_or_skipped_if_letter_unknown letter value =
    if letter == FOLDER then folder_line_if_path value else
    if letter == FOLDER_ACCESS then option_map folder_access_line (access_in value) else
    if letter == FILE then file_line_if_one_part value else
    if letter == FILE_ACCESS then option_map file_access_line (access_in value) else
    if letter == FILE_HASH then option_map file_hash_line (sha1_in_text value) else
    info_line_or_skipped_if_no_field (field_of_letter letter) value

-- the meaning of a line, which is a letter, a colon (`MARK`) and a value; None if the line is bad
abbrev pub record_line_of : List ℕ → Option RecordLine
record_line_of [] = None
record_line_of (letter ∷ []) = None
record_line_of (letter ∷ mark
    ∷ value) = if mark == MARK then record_line_or_skipped_if_letter_unknown letter value else None
