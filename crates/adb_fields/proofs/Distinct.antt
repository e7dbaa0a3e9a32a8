-- Lemmas that several crates need.
use Rattle.std.proofs.Common.{List, ℕ, ◌++◌, [], ◌∷◌}
use Rattle.adb_fields.specs.Once.{EachHasDistinctNames}

pub distinct_front : (xs ys : List (List (List ℕ))) → EachHasDistinctNames (xs ++ ys) → EachHasDistinctNames xs
distinct_front [] ys h = tt
distinct_front (x ∷ xs) ys h = (h.0, distinct_front xs ys h.1)
