-- The indentation of the lines in the text. The rule is in `docs/formats.md`, "Dump text": a line is
-- indented by two spaces for each level. Serves the contracts of `src/line.rt` and `src/block.rt`, which
-- write the text from the first byte to the last.
use Rattle.std.specs.Prelude.{ℕ, zero, suc, Bool, true, false, List, [], ◌∷◌, ◌++◌, codes}
use Rattle.adb_dump.specs.Dump.{Line}

-- the spaces in front of a line at a depth: two for each level
abbrev pub margin : ℕ → List ℕ
margin zero = []
margin (suc depth) = codes "  " ++ margin depth

-- the spaces that are still missing before the next line: none if the line has begun, that is, if its spaces and a
-- dash or the name of a field are written already
abbrev pub margin_unless_begun : ℕ → Bool → List ℕ
margin_unless_begun depth true = []
margin_unless_begun depth false = margin depth

-- the bytes of lines at a depth, each with its spaces and its line end; `begun` says whether the first line has
-- begun, and so needs no spaces
abbrev pub indented_lines_text : ℕ → Bool → List Line → List ℕ
indented_lines_text depth begun [] = []
indented_lines_text depth begun (l ∷ ls) =
    margin_unless_begun depth begun ++ (l ++ (codes "\n" ++ indented_lines_text depth false ls))

-- a depth that all lines are below. Tables are nested a few levels deep (`docs/formats.md`, "Schemas"),
-- so any such number serves; it keeps the depth of a line within 32 bits
abbrev pub DEPTH_LIMIT : ℕ
DEPTH_LIMIT = 100
