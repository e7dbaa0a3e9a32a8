-- The only member of a list that may beat all others, found in one pass.
-- No document has a rule for this: it serves the contract of `last_unbeaten_member` in `src/contest.rt`, by which
-- *member_beating_all_others* is found with few questions.
use Rattle.std.specs.Prelude.{ℕ, Bool, if◌then◌else◌, List, [], ◌∷◌}

-- The last current member of a pass through the list. The first current member is `c`; each member of the list that
-- the current one does not beat becomes the current one.
abbrev pub last_unbeaten_member : (ℕ → ℕ → Bool) → ℕ → List ℕ → ℕ
last_unbeaten_member beats c [] = c
last_unbeaten_member beats c (y ∷ ys) =
    if beats c y then last_unbeaten_member beats c ys else last_unbeaten_member beats y ys
