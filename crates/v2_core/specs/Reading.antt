-- The records of a text, or its first bad line.
-- The rules are in `docs/formats.md`, "Text database of version 2", the first paragraph and the one
-- of bad lines.
use Rattle.std.specs.Prelude.{ℕ, ◌+◌, ◌==◌, if◌then◌else◌, List, [], ◌∷◌, ◌++◌, length, Option, option_and_then, Result, Ok, Err}
use Rattle.std.specs.Option.{option_map_or}
use Rattle.dep_core.specs.World.{lines_of}
use Rattle.v2_core.specs.Lines.{record_line_of}
use Rattle.v2_core.specs.Records.{Record, empty_record, lacks_name_or_version_line, with_record_line}

-- a record with one more line of a text; None if the line is bad
abbrev pub record_with_text_line : Record → List ℕ → Option Record
record_with_text_line r line = option_and_then (with_record_line r) (record_line_of line)

-- some records followed by others, unless the others have a bad line
abbrev pub records_followed_by : List Record → Result (List Record) ℕ → Result (List Record) ℕ
records_followed_by records (Ok others) = Ok (records ++ others)
records_followed_by records (Err line) = Err line

-- the records from the record `r` on, which ended after this many lines of the text; `others` are
-- those after it. A record without a line is no record. In a record without a name or a
-- version the last line is bad
abbrev pub records_from_record_end : ℕ → Record → Result (List Record) ℕ → Result (List Record) ℕ
records_from_record_end lines r others =
    if r.has_line
    then (if lacks_name_or_version_line r.info then Err lines else records_followed_by (r ∷ []) others)
    else others

-- the records of some lines, or the number of the first bad line. `before` is the number of lines
-- before these, and `r` the record that those lines began
abbrev pub records_from_unfinished_record : ℕ → Record → List (List ℕ) → Result (List Record) ℕ
records_from_unfinished_record before r [] = records_from_record_end before r (Ok [])
records_from_unfinished_record before r (line ∷ lines) =
    if length line == 0 then records_from_record_end before r
    (records_from_unfinished_record (before + 1) empty_record lines)
    else option_map_or (λ next. records_from_unfinished_record (before + 1) next lines)
    (record_with_text_line r line)
    (Err (before + 1))

-- the records of a text, each ended by an empty line or the text's end, or the number of its first
-- bad line, counted from 1
unfoldable pub records_of : List ℕ → Result (List Record) ℕ
records_of text = records_from_unfinished_record 0 empty_record (lines_of text)
