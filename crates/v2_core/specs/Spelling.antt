-- The text of records: each record's lines in the order of its parts, followed by an empty line.
-- The rules are in `docs/formats.md`, "Text database of version 2". It serves the law
-- `the_text_of_records_is_read_back`.
use Rattle.std.specs.Prelude.{◌≡◌, ℕ, Bool, true, false, not, ◌&&◌, ◌||◌, ⊤, List, [], ◌∷◌, ◌++◌, map, Option, Some, None}
use Rattle.std.specs.List.{flat_map, list_all}
use Rattle.dep_core.specs.World.{is_line_end}
use Rattle.v2_core.specs.Accesses.{Access}
use Rattle.v2_core.specs.InfoFields.{is_list_info_field}
use Rattle.v2_core.specs.Lines.{RecordLine, info_line, folder_line, folder_access_line, file_line, file_access_line, file_hash_line, record_line_of}
use Rattle.v2_core.specs.Records.{InfoLine, ListedFile, ListedFolder, Record, has_line_of_field, lacks_name_or_version_line}

-- the line of the owner and mode of a file or a folder, which `line` makes; none if no line gave them
abbrev pub access_lines : (Access → RecordLine) → Option Access → List RecordLine
access_lines line None = []
access_lines line (Some a) = line a ∷ []

-- the line of a file's hash; none if no line gave it
abbrev pub hash_lines : Option (List ℕ) → List RecordLine
hash_lines None = []
hash_lines (Some hash) = file_hash_line hash ∷ []

-- the lines of a file: its name, then its access and its hash, if these are known
abbrev pub file_lines : ListedFile → List RecordLine
file_lines file =
    file_line file.name ∷ (access_lines file_access_line file.access ++ hash_lines file.hash)

-- the lines of a folder: its name, then its access, if that is known, then its files
abbrev pub folder_lines : ListedFolder → List RecordLine
folder_lines folder =
    folder_line folder.name
    ∷ (access_lines folder_access_line folder.access ++ flat_map file_lines folder.files)

-- the lines of the information, in the order in which they were read
abbrev pub info_lines : List InfoLine → List RecordLine
info_lines info = map (λ (l : InfoLine). info_line l.field l.values) info

-- the lines of a record: those of the information, then those of the folders
abbrev pub record_lines : Record → List RecordLine
record_lines r = info_lines r.info ++ flat_map folder_lines r.folders

-- whether each of these lines is the first one of its field, unless the field is a list. The first argument has
-- the lines before them
abbrev pub have_no_repeated_single_field : List InfoLine → List InfoLine → Bool
have_no_repeated_single_field before [] = true
have_no_repeated_single_field before (l ∷ ls) =
    (is_list_info_field l.field || not (has_line_of_field l.field before))
    && have_no_repeated_single_field (before ++ l ∷
    []) ls

-- whether a text holds no line end
abbrev pub is_one_line : List ℕ → Bool
is_one_line text = list_all (λ b. not (is_line_end b)) text

-- these texts are lines with these meanings, one for one
abbrev pub AreLines : List (List ℕ) → List RecordLine → Type 0
AreLines [] [] = ⊤
AreLines [] (l ∷ ls) = ⊥
AreLines (t ∷ ts) [] = ⊥
AreLines (t ∷ ts) (l ∷ ls) =
    (is_one_line t ≡ true) × (record_line_of t ≡ Some l) × AreLines ts ls

-- these lines are those of the record `r`, which has a name and a version, and each field that is no list once at most
pub record SpellsRecord (lines : List (List ℕ)) (r : Record) : Type 0 where
  -- the record has a line
  pub begun : r.has_line ≡ true
  -- the record has a name and a version
  pub complete : lacks_name_or_version_line r.info ≡ false
  -- the record has each field that is no list at most once
  pub once : have_no_repeated_single_field [] r.info ≡ true
  -- the lines are those of the record
  pub lines_say : AreLines lines (record_lines r)

-- the text of some lines, each with its line end (10), followed by another text
abbrev pub lines_text_before : List (List ℕ) → List ℕ → List ℕ
lines_text_before [] text = text
lines_text_before (line ∷ lines) text = line ++ 10 ∷ lines_text_before lines text

-- a text is that of these records: the lines of each, followed by an empty line
abbrev pub SpellsText : List ℕ → List Record → Type 0
SpellsText text [] = text ≡ []
SpellsText text (r ∷ rs) = (lines : List (List ℕ)) × (rest : List ℕ)
    × (text ≡ lines_text_before lines (10 ∷ rest)) × SpellsRecord lines r × SpellsText rest rs
