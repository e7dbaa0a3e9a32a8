-- The effect of reading on a draft and on the place in the text, by the values that are read.
-- The rule is in `docs/formats.md`, "Dump text". Serves the contracts of `src/read.rt` and
-- `src/value.rt`.
use Rattle.std.specs.Prelude.{◌≡◌, ◌≢◌, ℕ, ⊤, ◌+◌, ◌<◌, Bool, true, false, List, [], ◌∷◌, Option, Some, None, Result, Ok, Err, bytes_eq, codes}
use Rattle.std.specs.List.{AllByRecursion}
use Rattle.adb_view.specs.Plain.{Plain, Plains, Shape, number, text, hash, array, object}
use Rattle.adb_values.specs.adb_write.declared.writer.WriteFault.{WriteFault}
use Rattle.adb_values.specs.adb_write.declared.writer.WriteFault.TheVariants as WriteFaults
use Rattle.adb_values.specs.Drafts.{DraftState, draft_with, draft_with_all}
use Rattle.adb_dump.specs.Dump.{Line, int_or_null_line, text_or_null_line, hash_or_null_line}
use Rattle.adb_dump.specs.ReadBack.{ResultOrBadLine, entry_read, value_if_printed_as_line, int_of_line_of_unchecked_form, text_of_line_of_unchecked_form, hash_of_line_of_unchecked_form}
use Rattle.gen_core.specs.Cursors.{CursorState, cursor_after_block, cursor_after_line}
use Rattle.adb_view.specs.declared.tables.Which.{Which}
use Rattle.gen_core.specs.Generated.{DumpedRoot, table_of_line}
use Rattle.gen_core.specs.declared.generate.GenFault.{GenFault}
use Rattle.gen_core.specs.declared.generate.GenFault.TheVariants.{Bad, TooLarge, Memory}

-- ---- a value on one line

-- with true: these bytes are not empty, and their form on a line (`form`) is `l`. With false: no bytes, other
-- than none, have the form `l`
abbrev pub IsFormOf : (List ℕ → Line) → Bool → List ℕ → Line → Type 0
IsFormOf form true bytes l = (bytes ≢ []) × (form bytes ≡ l)
IsFormOf form false bytes l =
    (other : List ℕ) → AllByRecursion (λ b. b < 256) other → other ≢ [] → form other ≢ l

-- the value of a shape that has this line; for a shape of several lines, the line is bad
abbrev pub line_read : Shape → Line → ResultOrBadLine Plain
line_read number l = value_if_printed_as_line int_or_null_line l (int_of_line_of_unchecked_form l)
line_read text l = value_if_printed_as_line text_or_null_line l (text_of_line_of_unchecked_form l)
line_read hash l = value_if_printed_as_line hash_or_null_line l (hash_of_line_of_unchecked_form l)
line_read (array s) l = Err 0
line_read (object schema fs) l = Err 0

-- with true: a value was read, and the new draft is the old one with this value. With false: the line cannot be
-- read as a value
abbrev pub IsLineRead : Bool → ResultOrBadLine Plain → DraftState → DraftState → Type 0
IsLineRead true read old new = (v : Plain) × (read ≡ Ok v) × (new ≡ draft_with v old)
IsLineRead false read old new = read ≡ Err 0

-- ---- blocks

-- the result of reading: a draft, and the place from which more is read into it; or the number of the
-- first bad line, from 1
abbrev pub DraftOrBadLine : Type 0
DraftOrBadLine = Result (DraftState × CursorState) ℕ

-- the result of reading the current line as a value. In `Err k` the bad line is `k` lines after the
-- current one
abbrev pub draft_and_cursor_after_line : ResultOrBadLine Plain → DraftState → CursorState → DraftOrBadLine
draft_and_cursor_after_line (Ok v) d c = Ok (draft_with v d, cursor_after_line c.lines c)
draft_and_cursor_after_line (Err k) d c = Err (c.number + k)

-- the result of reading a block as a value, which is added to the draft; a bad line `k` counts from 0
-- in the block
abbrev pub block_taken :
    ResultOrBadLine Plain → List Line × List Line → DraftState → CursorState → DraftOrBadLine
block_taken (Ok v) block d c = Ok (draft_with v d, cursor_after_block block c)
block_taken (Err k) block d c = Err (c.number + k)

-- the result of reading a block as several values, which are added to the draft; a bad line `k` counts
-- from 0 in the block
abbrev pub values_taken :
    ResultOrBadLine Plains → List Line × List Line → DraftState → CursorState → DraftOrBadLine
values_taken (Ok vs) block d c = Ok (draft_with_all vs d, cursor_after_block block c)
values_taken (Err k) block d c = Err (c.number + k)

-- the value of a block that is an entry of an array, as in *entry_read*; `f` reads the value if it is
-- not Null
abbrev pub entry_block_read : (List Line → ResultOrBadLine Plain) → List Line → ResultOrBadLine Plain
entry_block_read f [] = f []
entry_block_read f (l ∷ ls) = entry_read f l ls

-- whether the first line of a block is `null`
abbrev pub is_null_line : Option Line → Bool
is_null_line None = false
is_null_line (Some l) = bytes_eq l (codes "null")

-- Ok if no line is left of a block; otherwise the next line of the block, which has the number `n`, is bad
abbrev pub end_or_bad_line : List Line → ℕ → Result (Unit {0}) GenFault
end_or_bad_line [] n = Ok tt
end_or_bad_line (l ∷ ls) n = Err (Bad n)

-- a fault of reading a text: a bad line is that of the result `read`. Out of memory may be reported at any line.
-- A payload that is too large is reported only at the end of the text
abbrev pub IsTextFault : {A : Type 0} → GenFault → Result A ℕ → Type 0
IsTextFault (Bad line) read = read ≡ Err line
IsTextFault (TooLarge bytes values) read = ⊥
IsTextFault Memory read = ⊤

-- ---- the text

-- the table that the first of some lines names; None if it names none, or there is no line
abbrev pub table_read : List Line → Option Which
table_read [] = None
table_read (l ∷ ls) = table_of_line l

-- whether there are bytes after the last line end
abbrev pub has_rest : List ℕ → Bool
has_rest [] = false
has_rest (c ∷ cs) = true

-- the table of the root, and the draft to which the root's value was added; or the number of the first
-- bad line
abbrev pub table_and_draft_of_root : Result DumpedRoot ℕ → DraftState → Result (Which × DraftState) ℕ
table_and_draft_of_root (Ok root) d = Ok (root.which, draft_with root.value d)
table_and_draft_of_root (Err line) d = Err line

-- the fault of a writer, as a fault of generating
abbrev pub fault_of_writer : WriteFault → GenFault
fault_of_writer (WriteFaults.TooLarge bytes values) = TooLarge bytes values
fault_of_writer WriteFaults.Memory = Memory
