-- What a pattern matches: each `*` stands for any bytes, or for none, and each other byte for itself.
-- The rule is in `docs/formats.md`, "Patterns".
use Rattle.std.specs.Prelude.{ℕ, ◌==◌, Bool, false, ◌&&◌, if◌then◌else◌, List, [], ◌∷◌, ◌++◌, length}
use Rattle.std.specs.List.{list_any}

-- the byte `*`
abbrev pub star : ℕ
star = 42

-- all suffixes of a text, the longest first: the whole text, and so on to the empty one
abbrev pub suffixes_of : List ℕ → List (List ℕ)
suffixes_of [] = [] ∷ []
suffixes_of (b ∷ text) = (b ∷ text) ∷ suffixes_of text

-- whether a text begins with the byte `p`, and what follows this byte passes the test `is_rest`
abbrev pub starts_with_byte_then : ℕ → (List ℕ → Bool) → List ℕ → Bool
starts_with_byte_then p is_rest [] = false
starts_with_byte_then p is_rest (b ∷ text) = (p == b) && is_rest text

-- whether a pattern matches the whole of a text
abbrev pub is_whole_text_matched : List ℕ → List ℕ → Bool
is_whole_text_matched [] text = length text == 0
is_whole_text_matched (p ∷ pattern) text =
    if p == star then list_any (is_whole_text_matched pattern) (suffixes_of text)
    else starts_with_byte_then p (is_whole_text_matched pattern) text

-- whether a pattern matches some substring of a text
abbrev pub matches_some_part : List ℕ → List ℕ → Bool
matches_some_part pattern text = is_whole_text_matched (star ∷ pattern ++ star ∷ []) text
