-- What the law of this crate says of a pattern and a text: replacing the stars of the pattern by bytes can give the
-- text.
use Rattle.std.specs.Prelude.{◌≡◌, ℕ, ◌==◌, if◌then◌else◌, List, [], ◌∷◌, ◌++◌, length, count_by}
use Rattle.star_patterns.specs.Patterns.{star}

-- how many stars a pattern has
abbrev pub star_count : List ℕ → ℕ
star_count pattern = count_by (λ b. b == star) pattern

-- the pattern, with its first star replaced by the first of these fills, its second star by the second fill, and so on
abbrev pub filled_pattern : List ℕ → List (List ℕ) → List ℕ
filled_pattern [] fills = []
filled_pattern (p ∷ pattern) [] = p ∷ pattern
filled_pattern (p ∷ pattern) (fill ∷ fills) =
    if p == star then fill ++ filled_pattern pattern fills
    else p ∷ filled_pattern pattern (fill ∷ fills)

-- replacing each star of the pattern by some bytes, or by none, can give the text
pub record MatchesByFillingStars (pattern text : List ℕ) : Type 0 where
  -- the bytes that replace each star
  pub fills : List (List ℕ)
  -- there is one list of bytes for each star
  pub count : length fills ≡ star_count pattern
  -- the pattern with these bytes in place of its stars is the text
  pub text_is : filled_pattern pattern fills ≡ text
