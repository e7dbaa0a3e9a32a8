-- What is in a sorted list.
use Rattle.std.proofs.Common.{◌≡◌, ◌⊎◌, inl, inr, Bool, true, false, List, [], ◌∷◌, Ordering}
use Rattle.std.specs.Prelude.{if◌then◌else◌}
use Rattle.std.specs.Ordering.{is_gt}
use Rattle.path_clashes.specs.adb_fields.FirstPair.{IsIn}
use Rattle.base_core.specs.Sorted.{sorted_by, with_element_inserted}

module _ {X : Type 0} (cmp : X → X → Ordering) where
  pub from_put : (q x : X) (ys : List X) → IsIn q (with_element_inserted cmp x ys) → (q ≡ x) ⊎ IsIn q ys
  from_put q x [] here = here
  from_put q x (y ∷ ys) here = go (is_gt (cmp x y)) (from_put q x ys) here
    where
      go : (b : Bool) → (IsIn q (with_element_inserted cmp x ys) → (q ≡ x) ⊎ IsIn q ys) → IsIn q (if b then y ∷ with_element_inserted cmp x ys else x ∷ y ∷ ys) → (q ≡ x) ⊎ IsIn q (y ∷ ys)
      go true rest (inl is) = inr (inl is)
      go true rest (inr more) = elim (rest more) [ inl is ↦ inl is | inr old ↦ inr (inr old) ]
      go false rest here = here

  in_put : (q x : X) (ys : List X) → (q ≡ x) ⊎ IsIn q ys → IsIn q (with_element_inserted cmp x ys)
  in_put q x [] here = here
  in_put q x (y ∷ ys) here = go (is_gt (cmp x y)) (in_put q x ys) here
    where
      go : (b : Bool) → ((q ≡ x) ⊎ IsIn q ys → IsIn q (with_element_inserted cmp x ys)) → (q ≡ x) ⊎ IsIn q (y ∷ ys) → IsIn q (if b then y ∷ with_element_inserted cmp x ys else x ∷ y ∷ ys)
      go true rest (inl is) = inr (rest (inl is))
      go true rest (inr (inl is)) = inl is
      go true rest (inr (inr old)) = inr (rest (inr old))
      go false rest here = here

  pub from_sorted : (q : X) (xs : List X) → IsIn q (sorted_by cmp xs) → IsIn q xs
  from_sorted q [] here = here
  from_sorted q (x ∷ xs) here = elim (from_put q x (sorted_by cmp xs) here) [ inl is ↦ inl is | inr old ↦ inr (from_sorted q xs old) ]

  pub in_sorted : (q : X) (xs : List X) → IsIn q xs → IsIn q (sorted_by cmp xs)
  in_sorted q [] here = here
  in_sorted q (x ∷ xs) (inl is) = in_put q x (sorted_by cmp xs) (inl is)
  in_sorted q (x ∷ xs) (inr old) = in_put q x (sorted_by cmp xs) (inr (in_sorted q xs old))
