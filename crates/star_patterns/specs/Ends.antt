-- What a pattern after its first star has to match. Serves the contracts and proofs of `src/pattern.rt`.
use Rattle.std.specs.Prelude.{ℕ, ◌==◌, Bool, List}
use Rattle.std.specs.List.{list_any}
use Rattle.star_patterns.specs.Patterns.{is_whole_text_matched, star, suffixes_of}

-- whether a pattern has a `*`
abbrev pub has_star : List ℕ → Bool
has_star pattern = list_any (λ b. b == star) pattern

-- whether a pattern matches some suffix of a text
abbrev pub matches_some_suffix : List ℕ → List ℕ → Bool
matches_some_suffix pattern text = list_any (is_whole_text_matched pattern) (suffixes_of text)
