-- Sorted lists, by any order of their elements. The rule is that of `docs/names.md`, *sorted*, and of
-- the README of this crate.
use Rattle.std.specs.Prelude.{List, [], ◌∷◌, if◌then◌else◌}
use Rattle.std.specs.Ordering.{is_gt}
use Rattle.std.specs.declared.cmp.Ordering.{Ordering}

-- the list with `x` inserted before the first element that is not less than `x`, by the order `cmp`
abbrev pub with_element_inserted : {X : Type 0} → (X → X → Ordering) → X → List X → List X
with_element_inserted cmp x [] = x ∷ []
with_element_inserted cmp x (y ∷ ys) =
    if is_gt (cmp x y) then y ∷ with_element_inserted cmp x ys else x ∷ y ∷ ys

-- the elements of a list in the order of `cmp`; equal elements keep their order
abbrev pub sorted_by : {X : Type 0} → (X → X → Ordering) → List X → List X
sorted_by cmp [] = []
sorted_by cmp (x ∷ xs) = with_element_inserted cmp x (sorted_by cmp xs)
