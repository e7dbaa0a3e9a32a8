-- Roots and the lines of their dumps, and the first line of a text that no dump has after the lines
-- before it. These definitions use only the definition of a dump text, and no reader.
-- The rule is in `docs/formats.md`, "Dump text". Serves the laws of `src/laws.rt`.
use Rattle.std.specs.Prelude.{◌≡◌, ◌≢◌, ℕ, ◌+◌, ◌-◌, ◌≤◌, ◌⊎◌, List, [], ◌++◌, length, take, IsSome}
use Rattle.adb_view.specs.Plain.{Plain}
use Rattle.adb_view.specs.declared.tables.Which.{Which}
use Rattle.adb_dump.specs.adb_schema.Soundness.{header_schema_if_root_table}
use Rattle.adb_dump.specs.Dump.{Line, dump_lines}
use Rattle.adb_dump.specs.Values.{IsOfBytes, IsNormalValueOfTable}
use Rattle.gen_core.specs.Generated.{whole_lines_and_rest}

-- a value of a root: a normal one of bytes, of one of the four tables that a root may have
pub record IsNormalRootValueOfTable (which : Which) (value : Plain) : Type 0 where
  -- the table is that of a root
  pub root : IsSome (header_schema_if_root_table which)
  -- the value is a normal one of the table
  pub normal : IsNormalValueOfTable which value
  -- the value is of bytes
  pub bytes : IsOfBytes value

-- these are all lines of the dump of a root
pub record AreDumpLines (lines : List Line) : Type 0 where
  -- the root
  pub which : Which
  -- the value of the root
  pub value : Plain
  -- this value is normal and of bytes, and the table may be that of a root
  pub is : IsNormalRootValueOfTable which value
  -- the dump of the root has these lines
  pub lines_are : dump_lines which value ≡ lines

-- the dump of a root begins with these lines
pub record BeginsADump (front : List Line) : Type 0 where
  -- the other lines of the dump
  pub others : List Line
  -- the given lines and then the others are the lines of a dump
  pub whole : AreDumpLines (front ++ others)

-- the line with this number, from 1, is the first that no dump has after the lines before it. If another
-- line must follow, or the last line has no line end, it is the number of whole lines plus 1
pub record IsFirstBadDumpLine (text : List ℕ) (number : ℕ) : Type 0 where
  -- the number is at least 1
  pub low : 1 ≤ number
  -- the number is at most that of whole lines (lines with their line end) plus 1
  pub high : number ≤ length (whole_lines_and_rest text).0 + 1
  -- a dump begins with the lines before the reported one, if there are any
  pub before : number ≢ 1 → BeginsADump (take (number - 1) (whole_lines_and_rest text).0)
  -- no dump begins with these lines and the reported one, if that is a whole line
  pub bad : number ≤ length (whole_lines_and_rest text).0
      → ¬ BeginsADump (take number (whole_lines_and_rest text).0)
  -- if it is no whole line, bytes follow the last line end, or the whole lines are not all lines of a dump
  pub end : number ≡ length (whole_lines_and_rest text).0 + 1
      → ((whole_lines_and_rest text).1 ≢ []) ⊎ (¬ AreDumpLines (whole_lines_and_rest text).0)
