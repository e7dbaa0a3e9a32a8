-- The root that a dump text says, and the container of that root. Which text a root has is defined
-- in `Dump` of `adb_dump`, and how lines are read back in its `ReadBack`.
-- The rules are in `docs/formats.md`, "Dump text" and "Canonical layout".
use Rattle.std.specs.Prelude.{◌≡◌, ℕ, ⊤, ◌+◌, List, [], ◌∷◌, length, bytes_eq, find, Option, Some, None, unwrap_or, Result, Ok, Err, ◌==◌, if◌then◌else◌}
use Rattle.base_core.specs.Lists.{and_then}
use Rattle.adb_view.specs.Plain.{Plain}
use Rattle.adb_view.specs.declared.tables.Which.{Which}
use Rattle.adb_view.specs.declared.tables.Which.TheVariants.{Package, Index, Idb, Intent}
use Rattle.adb_dump.specs.adb_schema.Soundness.{header_schema_if_root_table}
use Rattle.adb_values.specs.adb_write.Canonical.{ByteAndValueCounts, payload_or_counts_at_overflow}
use Rattle.adb_values.specs.adb_write.File.{file_of}
use Rattle.adb_dump.specs.Dump.{Line, schema_line_or_empty_line}
use Rattle.adb_dump.specs.ReadBack.{ResultOrBadLine, value_of_lines_below_schema_line}
use Rattle.gen_core.specs.declared.generate.GenFault.{GenFault}
use Rattle.gen_core.specs.declared.generate.GenFault.TheVariants.{Bad, TooLarge, Memory}

-- ---- the lines of a text

-- the lines of a text that have their line end, and the bytes after the last line end
abbrev pub TextLines : Type 0
TextLines = List Line × List ℕ

-- the lines of a text with one byte more in front, which is no line end. The byte belongs to the first line, or, if
-- there is no whole line, to the bytes after the last line end
abbrev pub lines_with_nonend_byte_in_front : ℕ → List Line → List ℕ → TextLines
lines_with_nonend_byte_in_front c [] rest = ([], c ∷ rest)
lines_with_nonend_byte_in_front c (l ∷ ls) rest = ((c ∷ l) ∷ ls, rest)

-- the lines of a text with one byte more in front; a line end is the end of an empty first line
abbrev pub lines_with_byte_in_front : ℕ → TextLines → TextLines
lines_with_byte_in_front c lines =
    if c == 0x0a then ([] ∷ lines.0, lines.1) else lines_with_nonend_byte_in_front c lines.0 lines.1

-- the lines of a text that have their line end, and the bytes after the last line end
abbrev pub whole_lines_and_rest : List ℕ → TextLines
whole_lines_and_rest [] = ([], [])
whole_lines_and_rest (c ∷ cs) = lines_with_byte_in_front c (whole_lines_and_rest cs)

-- ---- the root that is read from a text

-- the root of a container: its table, and its plain value
pub record DumpedRoot : Type 0 where
  -- the table of the root
  pub which : Which
  -- the plain value of the root
  pub value : Plain

-- the four tables that a root may have
abbrev pub root_tables : List Which
root_tables = Package ∷ Index ∷ Idb ∷ Intent ∷ []

-- the table of the root whose schema a first line names; None if it names none of the four
abbrev pub table_of_line : Line → Option Which
table_of_line l =
    find (λ which. bytes_eq l (schema_line_or_empty_line (header_schema_if_root_table which))) root_tables

-- the root with the value that was read from the lines after the first; or the number of a bad line.
-- That number counts from 0 after the first line; the result counts all lines from 1, so it is greater
-- by 2
abbrev pub dumped_root_of_value_read : Which → ResultOrBadLine Plain → Result DumpedRoot ℕ
dumped_root_of_value_read which (Ok v) = Ok (record { which = which; value = v })
dumped_root_of_value_read which (Err k) = Err (k + 2)

-- the root that is read from the lines after the first (`ls`), as an object of the table that the
-- first line names. Without a table line 1 is bad
abbrev pub root_of_lines_below_schema_line : Option Which → List Line → Result DumpedRoot ℕ
root_of_lines_below_schema_line None ls = Err 1
root_of_lines_below_schema_line (Some which) ls =
    dumped_root_of_value_read which (value_of_lines_below_schema_line which ls)

-- the root that is read from some lines, or the number of the first bad line, counted from 1; without
-- any line, line 1 is bad
abbrev pub root_of_lines : List Line → Result DumpedRoot ℕ
root_of_lines [] = Err 1
root_of_lines (l ∷ ls) = root_of_lines_below_schema_line (table_of_line l) ls

-- the root, unless bytes follow the last line end. These are a bad line, whose number is one more than
-- the number of whole lines (`lines`)
abbrev pub unless_unfinished_line : List ℕ → ℕ → DumpedRoot → Result DumpedRoot ℕ
unless_unfinished_line [] lines root = Ok root
unless_unfinished_line (c ∷ cs) lines root = Err (lines + 1)

-- the root that is read from a text, or the number, from 1, of the first line that no dump has after
-- the lines before it
unfoldable pub dumped_root : List ℕ → Result DumpedRoot ℕ
dumped_root text = let lines = whole_lines_and_rest text in
    and_then (root_of_lines lines.0) (unless_unfinished_line lines.1 (length lines.0))

-- ---- the container of a text

-- the schema in the header of a container with this root; 0 for a table that is no root
abbrev pub schema_word_or_zero : Which → ℕ
schema_word_or_zero which = unwrap_or (header_schema_if_root_table which) 0

-- the container with the schema `word` and this payload, or the counts of a payload that is too large
abbrev pub file_of_schema_and_payload_unless_too_large :
    ℕ → Result (List ℕ) ByteAndValueCounts → Result (List ℕ) GenFault
file_of_schema_and_payload_unless_too_large word (Ok payload) = Ok (file_of word payload)
file_of_schema_and_payload_unless_too_large word (Err counts) = Err (TooLarge counts.0 counts.1)

-- the container of a root, in its canonical layout; or the bad line
abbrev pub file_of_root : Result DumpedRoot ℕ → Result (List ℕ) GenFault
file_of_root (Ok root) =
    file_of_schema_and_payload_unless_too_large (schema_word_or_zero root.which)
    (payload_or_counts_at_overflow root.value)
file_of_root (Err line) = Err (Bad line)

-- the container that is generated from a dump text; or what is reported: the first bad line, else the
-- counts of a payload that is too large
unfoldable pub generated_file : List ℕ → Result (List ℕ) GenFault
generated_file text = file_of_root (dumped_root text)

-- a fault of generating a file: it is that of `answer`, the result of the definition; out of memory may be
-- reported for any text
abbrev pub IsGenFault : GenFault → Result (List ℕ) GenFault → Type 0
IsGenFault Memory answer = ⊤
IsGenFault (Bad line) answer = answer ≡ Err (Bad line)
IsGenFault (TooLarge bytes values) answer = answer ≡ Err (TooLarge bytes values)
