-- A list and the same in another order have the same members.
use Rattle.std.proofs.Common.{◌≡◌, All, inl, inr, ℕ, zero, suc, ◌+◌, ◌<◌, Bool, List, [], ◌∷◌, length, get_or, refl, sym, subst, ◌∙◌, arith}
use Rattle.std.specs.Prelude.{if◌then◌else◌, sum_by}
use Rattle.std.specs.List.{filter}
use Rattle.std.specs.List.Sorted.{IsPermutation}
use Rattle.std.proofs.lemmas.List.Recursion.{is_sum_by}
use Rattle.std.proofs.lemmas.List.Sorted.{All-permutation, IsPermutation-sym, sum_by-IsPermutation}
use Rattle.std.proofs.lemmas.Bool.{cases_Bool}
use Rattle.candidate_core.specs.Options.{IsIn}

module _ {X : Type 0} where
  at_each : (x : X) (xs : List X) → All (λ c. IsIn c xs) xs → (i : ℕ) (d : X) → i < length (x ∷ xs) → IsIn (get_or (x ∷ xs) i d) (x ∷ xs)
  at_each x xs rest zero d h = inl refl
  at_each x xs rest (suc i) d h = inr (rest i d (omega (arith, h)))

  members_of : (xs : List X) → All (λ c. IsIn c xs) xs
  members_of [] = λ i d h. absurd (omega (arith, h))
  members_of (x ∷ xs) = at_each x xs (members_of xs)

  pub member_of_all : (P : X → Type 0) (xs : List X) (c : X) → All P xs → IsIn c xs → P c
  member_of_all P [] c all m = absurd m
  member_of_all P (x ∷ xs) c all (inl e) = subst P (sym e) (all 0 x (omega arith))
  member_of_all P (x ∷ xs) c all (inr m) = member_of_all P xs c (λ i d h. all (suc i) d (omega (arith, h))) m

  pub moved_member : (xs ys : List X) (c : X) → IsPermutation xs ys → IsIn c xs → IsIn c ys
  moved_member xs ys c moved m =
      member_of_all (λ k. IsIn k ys) xs c (All-permutation (λ k. IsIn k ys) ys xs (IsPermutation-sym xs ys moved) (members_of ys)) m

  filter_more : (p : X → Bool) (x : X) (xs : List X) → length (filter p (x ∷ xs)) ≡ (if p x then 1 else 0) + length (filter p xs)
  filter_more p x xs = elim (cases_Bool (p x)) [ inl e ↦ rw e (omega arith) | inr e ↦ rw e (omega arith) ]

  filter_sum : (p : X → Bool) (xs : List X) → length (filter p xs) ≡ sum_by (λ x. if p x then 1 else 0) xs
  filter_sum p = is_sum_by (λ xs. length (filter p xs)) (λ x. if p x then 1 else 0) refl (filter_more p)

  -- as many pass a test
  pub moved_filter : (p : X → Bool) (xs ys : List X) → IsPermutation xs ys → length (filter p ys) ≡ length (filter p xs)
  moved_filter p xs ys moved = filter_sum p ys ∙ (sum_by-IsPermutation (λ x. if p x then 1 else 0) xs ys moved ∙ sym (filter_sum p xs))
