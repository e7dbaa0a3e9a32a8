-- The line of a text that is reported.
-- The rule is in `docs/formats.md`, "Text database of version 2": the first bad line of the whole text
-- is reported.
use Rattle.std.specs.Prelude.{◌≡◌, ℕ, ◌<◌, List, [], ◌∷◌, ◌++◌, length, take, Result, Ok, Err}
use Rattle.v2_core.specs.Reading.{records_from_unfinished_record}
use Rattle.v2_core.specs.Records.{Record, empty_record}

-- the records of a text's lines
abbrev pub read_lines : List (List ℕ) → Result (List Record) ℕ
read_lines lines = records_from_unfinished_record 0 empty_record lines

-- these lines are the first ones of a text that is read
pub record BeginsText (front : List (List ℕ)) : Type 0 where
  -- the other lines of the text
  pub more : List (List ℕ)
  -- the records of the text
  pub records : List Record
  -- the text is read as these records
  pub is_read : read_lines (front ++ more) ≡ Ok records

-- The line with the number `number` is reported as bad: if the last record of the lines up to it ends there, every
-- text that begins with these lines is refused with this number. The lines up to any smaller number begin a text
-- that is read.
pub record IsNumberOfReportedBadLine (lines : List (List ℕ)) (number : ℕ) : Type 0 where
  -- the lines up to the number
  pub front : List (List ℕ)
  -- the lines after those up to the number
  pub rest : List (List ℕ)
  -- these lines and those after them are all lines of the text
  pub located : lines ≡ front ++ rest
  -- the lines up to the number are as many as it says
  pub up_to : length front ≡ number
  -- if their last record ends there, the text is refused with this number, whatever follows
  pub bad : (more : List (List ℕ)) → read_lines (front ++ [] ∷ more) ≡ Err number
  -- the first k lines, for a smaller number k, begin a text that is read
  pub earlier : (k : ℕ) → k < number → BeginsText (take k lines)
