-- A place in a text, at the beginning of a line, and the block of lines that begins there.
-- The rule is in `docs/formats.md`, "Dump text": a line is indented by two spaces for each level.
-- Serves the contracts of `src/cursor.rt` and `src/read.rt`.
use Rattle.std.specs.Prelude.{ℕ, ◌+◌, List, [], ◌∷◌, ◌++◌, length, Option, Some, None}
use Rattle.adb_dump.specs.Dump.{Line}
use Rattle.adb_dump.specs.Margin.{margin}
use Rattle.adb_dump.specs.ReadBack.{strip_prefix, end_block_or_add_line}
use Rattle.gen_core.specs.Generated.{whole_lines_and_rest}

-- a place in a text, at the beginning of a line
pub record CursorState : Type 0 where
  -- the lines from this place on that have their line end, the current line first
  pub lines : List Line
  -- the number of the current line, counted from 1
  pub number : ℕ
  -- how many levels (of two spaces) of the current line's indentation were read
  pub levels : ℕ

-- a place by its parts
abbrev pub cursor_from_parts : List Line → ℕ → ℕ → CursorState
cursor_from_parts lines number levels = record { lines = lines; number = number; levels = levels }

-- the lines still to be read: the current one, with the indentation that was read (`levels`) put back, and the
-- lines of `rest`, the bytes after it, that have their line ends
abbrev pub lines_at_cursor : ℕ → Option Line → List ℕ → List Line
lines_at_cursor levels None rest = []
lines_at_cursor levels (Some l) rest = (margin levels ++ l) ∷ (whole_lines_and_rest rest).0

-- how many line ends the current line has: one, if there is such a line
abbrev pub line_end_count : Option Line → ℕ
line_end_count None = 0
line_end_count (Some l) = 1

-- the first line of a block, if it has a line
abbrev pub line_of_block : List Line → Option Line
line_of_block [] = None
line_of_block (l ∷ ls) = Some l

-- the block at the front: the lines that are indented by this many levels, without these spaces; and
-- the lines after the block
abbrev pub block_at : ℕ → List Line → List Line × List Line
block_at depth [] = ([], [])
block_at depth (l ∷ ls) = end_block_or_add_line l ls (strip_prefix (margin depth) l) (block_at depth ls)

-- how many levels of indentation were already read of the line after a block: none, or those read before the
-- block (`levels`) if the block has no line
abbrev pub margin_levels_after_block : List Line → ℕ → ℕ
margin_levels_after_block [] levels = levels
margin_levels_after_block (l ∷ ls) levels = 0

-- the place after a block, which begins at the place `c`. `block` has the lines of the block and the lines after it
abbrev pub cursor_after_block : List Line × List Line → CursorState → CursorState
cursor_after_block block c =
    cursor_from_parts block.1 (c.number + length block.0) (margin_levels_after_block block.0 c.levels)

-- the place after the current line of the place `c`, by the lines of `c`; `c` itself if no line is left
abbrev pub cursor_after_line : List Line → CursorState → CursorState
cursor_after_line [] c = c
cursor_after_line (l ∷ ls) c = cursor_from_parts ls (c.number + 1) 0

-- the place after the dash of an array's entry. The rest of the line (`entry`) counts as a line with a
-- margin of this many levels, all of which were read
abbrev pub cursor_at_entry : ℕ → Line → List Line → CursorState → CursorState
cursor_at_entry levels entry [] c = c
cursor_at_entry levels entry (l ∷ ls) c = cursor_from_parts ((margin levels ++ entry) ∷ ls) c.number levels
