-- A list in order that has the elements of another is that list, sorted, if elements that are equal in order are the same.
use Rattle.std.proofs.Common.{◌≡◌, inl, inr, ℕ, zero, suc, Bool, true, false, List, [], ◌∷◌, length, refl, sym, ap, ◌∙◌}
use Rattle.std.specs.Prelude.{not, ◌&&◌}
use Rattle.std.specs.Cmp.{IsTotalOrder}
use Rattle.std.specs.List.{filter}
use Rattle.std.specs.List.Sorted.{IsPermutation, IsSortedBy, ties}
use Rattle.std.specs.Ordering.{is_lt, ordering_reverse}
use Rattle.std.specs.declared.cmp.Ordering.{Ordering}
use Rattle.std.specs.declared.cmp.Ordering.TheVariants.{Less, Equal, Greater}
use Rattle.std.proofs.lemmas.List.Sorted.{IsPermutation-sym, IsPermutation-trans}
use Rattle.std.proofs.lemmas.Bool.{cases_Bool}
use Rattle.base_core.specs.Sorted.{sorted_by}
use Rattle.base_core.proofs.Sorting.{one_order, ranks, rises_in_order, rises_sorted, sorted_same}
use Rattle.pool_core.proofs.option_ranks.MovedMembers.{moved_filter}

both_not : (a b : Bool) → (not a && not b) ≡ true → (a ≡ false) × (b ≡ false)
both_not true b h = absurd (cc)
both_not false true h = absurd (cc)
both_not false false h = (refl, refl)

copies : {X : Type 0} → ℕ → X → List X
copies zero x = []
copies (suc n) x = x ∷ copies n x

same_elements : {X : Type 0} (p : X → Bool) (z : X) → ((x : X) → p x ≡ true → x ≡ z) → (xs : List X) → filter p xs ≡ copies (length (filter p xs)) z
unfolding copies
same_elements p z same [] = refl
same_elements {X} p z same (x ∷ xs) = elim (cases_Bool (p x)) [
  | inl e ↦ rw e (ap (λ (y : X). y ∷ filter p xs) (same x e) ∙ ap (λ (ys : List X). z ∷ ys) (same_elements p z same xs))
  | inr e ↦ rw e (same_elements p z same xs)
]

module _ {X : Type 0} (cmp : X → X → Ordering) (total : IsTotalOrder cmp) (one : (a b : X) → cmp a b ≡ Equal → a ≡ b) where
  tied_same : (z x : X) → ties (λ a b. is_lt (cmp a b)) z x ≡ true → x ≡ z
  tied_same z x t = by (cmp z x) refl
    where
      by : (r : Ordering) → r ≡ cmp z x → x ≡ z
      by Less e = let bad : true ≡ false = ap is_lt e ∙ (both_not (is_lt (cmp z x)) (is_lt (cmp x z)) t).0 in absurd (cc)
      by Equal e = sym (one z x (sym e))
      by Greater e =
          let back : cmp x z ≡ Less = total.antisymm x z ∙ ap ordering_reverse (sym e) in
          let bad : true ≡ false = sym (ap is_lt back) ∙ (both_not (is_lt (cmp z x)) (is_lt (cmp x z)) t).1 in
          absurd (cc)

  pub sorted_moved : (xs ys : List X) → IsSortedBy (λ a b. is_lt (cmp a b)) ys → IsPermutation xs ys → ys ≡ sorted_by cmp xs
  sorted_moved xs ys up moved =
      one_order (λ a b. is_lt (cmp a b)) (ranks cmp total) (sorted_by cmp xs) ys (rises_in_order cmp total xs) (rises_sorted (λ a b. is_lt (cmp a b)) (ranks cmp total) ys up)
      (λ (z : X).
      let p : X → Bool = ties (λ a b. is_lt (cmp a b)) z in
      let back : IsPermutation (sorted_by cmp xs) ys = IsPermutation-trans (sorted_by cmp xs) xs ys (IsPermutation-sym xs (sorted_by cmp xs) (sorted_same cmp xs)) moved in
      let len : length (filter p ys) ≡ length (filter p (sorted_by cmp xs)) = moved_filter p (sorted_by cmp xs) ys back in
      same_elements p z (tied_same z) ys ∙ (ap (λ (n : ℕ). copies n z) len ∙ sym (same_elements p z (tied_same z) (sorted_by cmp xs))))
