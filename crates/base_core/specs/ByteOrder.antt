-- Byte order: texts are compared byte by byte, the first difference decides, and a prefix of a text is
-- before the text. The rule is that of `docs/names.md`, *byte order*; `docs/formats.md`, "World" and
-- "The database after a change", uses it.
use Rattle.std.specs.Prelude.{ℕ, Bool, List, [], ◌∷◌, Option, Some, None, if◌then◌else◌}
use Rattle.std.specs.Ordering.{nat_cmp, is_lt}
use Rattle.std.specs.declared.cmp.Ordering.{Ordering}
use Rattle.std.specs.Cmp.Lexicographic.{slice_cmp}

-- how two texts compare by their bytes
abbrev pub bytes_cmp : List ℕ → List ℕ → Ordering
bytes_cmp = slice_cmp nat_cmp

-- whether a text is before another one
abbrev pub precedes : List ℕ → List ℕ → Bool
precedes a b = is_lt (bytes_cmp a b)

-- the smaller of two texts by byte order; the first text if the second is None
abbrev pub smaller_text : List ℕ → Option (List ℕ) → Option (List ℕ)
smaller_text a None = Some a
smaller_text a (Some b) = if precedes b a then Some b else Some a

-- the smallest of several texts by byte order, if there is one
abbrev pub smallest_text : List (List ℕ) → Option (List ℕ)
smallest_text [] = None
smallest_text (a ∷ texts) = smaller_text a (smallest_text texts)
