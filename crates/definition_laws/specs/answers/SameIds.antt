-- When two ids are ids of one package. The rule is in `docs/selection.md`, "What there is to choose
-- from". Serves the law of `src/ids.rt`.
use Rattle.std.specs.Prelude.{◌≡◌, ◌≢◌, ◌⊎◌, ℕ, List, [], ◌++◌}

-- the ids `a` and `b` are both not empty, and one of them is a prefix of the other; equal ids are included
pub record AreNonemptyAndOneBeginsTheOther (a b : List ℕ) : Type 0 where
  -- the first id is not empty
  pub first_has_bytes : a ≢ []
  -- the second id is not empty
  pub second_has_bytes : b ≢ []
  -- the bytes by which one id is longer than the other
  pub rest : List ℕ
  -- one id is the other followed by these bytes
  pub begins : (a ≡ b ++ rest) ⊎ (b ≡ a ++ rest)
