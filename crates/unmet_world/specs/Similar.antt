-- Names that differ by one byte. If no package has a name, the explanation shows a similar name. The rule is in
-- `docs/commands.md`, "Why nothing can be selected".
use Rattle.std.specs.Prelude.{ℕ, ◌==◌, Bool, ◌||◌, if◌then◌else◌, List, [], ◌∷◌, length, drop, Option}
use Rattle.std.specs.Option.{option_map}
use Rattle.std.specs.List.{find}
use Rattle.std.specs.Str.{bytes_eq}
use Rattle.search_tables.specs.candidate_core.Candidates.{Candidate}

-- whether two texts are the same without the first byte of one of them, or of both
abbrev pub is_same_after_first : List ℕ → List ℕ → Bool
is_same_after_first text other =
    bytes_eq (drop 1 text) (drop 1 other)
    || (bytes_eq text (drop 1 other) || bytes_eq (drop 1 text) other)

-- whether two texts differ by one byte: only one of them has it, or it is another in each. After their common
-- beginning, the rest is the same without this byte
abbrev pub differ_by_one : List ℕ → List ℕ → Bool
differ_by_one [] other = length other == 1
differ_by_one (x ∷ rest) [] = length (x ∷ rest) == 1
differ_by_one (x ∷ rest) (y ∷ others) =
    if x == y then differ_by_one rest others else is_same_after_first (x ∷ rest) (y ∷ others)

-- the name of the first candidate whose name differs by one byte from this one
abbrev pub similar_name : List ℕ → List Candidate → Option (List ℕ)
similar_name name candidates =
    option_map (λ (c : Candidate). c.name)
    (find (λ (c : Candidate). differ_by_one name c.name) candidates)
