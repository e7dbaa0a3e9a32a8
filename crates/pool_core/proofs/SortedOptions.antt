-- A sorted list of the places that may be chosen is the options.
use Rattle.std.proofs.Common.{◌≡◌, ◌⊎◌, inl, inr, ℕ, suc, ◌+◌, ◌≤◌, ◌<◌, Bool, true, false, List, [], ◌∷◌, length, get_or, refl, sym, subst, ◌∙◌, arith}
use Rattle.std.specs.Prelude.{not, ◌&&◌}
use Rattle.std.specs.List.{filter}
use Rattle.std.specs.List.Sorted.{IsPermutation, IsSortedBy, ties}
use Rattle.std.specs.Cmp.{IsStrictWeakOrder}
use Rattle.std.proofs.lemmas.Bool.{cases_eq, cases_Bool}
use Rattle.std.proofs.lemmas.List.Sorted.{IsPermutation-sym, sorted_far}
use Rattle.option_ranks.specs.candidate_core.Options.{AreDistinct, IsIn, IsStrictlySortedBestFirst, rank_order_of}
use Rattle.option_ranks.proofs.MovedMembers.{moved_filter, moved_member}
use Rattle.option_ranks.proofs.candidate_core.OptionLists.{ranked_in, in_ranked}

module _ (better : ℕ → ℕ → Bool) (weak : IsStrictWeakOrder better) (chain : (a b c : ℕ) → better a b ≡ true → better b c ≡ true → better a c ≡ true) (one_of : (a b : ℕ) → (a ≡ b → ⊥) → (better a b ≡ true) ⊎ (better b a ≡ true)) where
  no_true : false ≡ true → ⊥
  no_true e = cc

  asym : (a b : ℕ) → better a b ≡ true → better b a ≡ true → ⊥
  asym a b h g = no_true (sym (weak.one_way a b h) ∙ g)

  not_self : (a : ℕ) → better a a ≡ false
  not_self a = elim (cases_Bool (better a a)) [ inl e ↦ absurd (asym a a e e) | inr e ↦ e ]

  ties_self : (a : ℕ) → ties better a a ≡ true
  ties_self a = rw (not_self a) refl

  filter_pos : (a : ℕ) (p : ℕ → Bool) (xs : List ℕ) → IsIn a xs → p a ≡ true → 1 ≤ length (filter p xs)
  filter_pos a p [] h e = absurd h
  filter_pos a p (x ∷ xs) (inl q) e = rw (subst (λ (z : ℕ). p z ≡ true) q e) (omega arith)
  filter_pos a p (x ∷ xs) (inr h) e = elim (cases_Bool (p x)) [ inl t ↦ rw t (omega arith) | inr t ↦ rw t (filter_pos a p xs h e) ]

  tie_same : (a b : ℕ) → ties better a b ≡ true → a ≡ b
  tie_same a b h = elim (told a b) [
    | inl e ↦ e
    | inr n ↦ elim (one_of a b n) [
      | inl g ↦ let bad : false ≡ true = rw g at h in absurd (no_true bad)
      | inr g ↦ let bad : false ≡ true = both_bad (better a b) (better b a) g h in absurd (no_true bad)
    ]
  ]
    where
      told : (a b : ℕ) → (a ≡ b) ⊎ (a ≡ b → ⊥)
      told a b = cases_eq a b

      both_bad : (p q : Bool) → q ≡ true → (not p && not q) ≡ true → false ≡ true
      both_bad true q e h = h
      both_bad false q e h = rw e at h

  once : (a : ℕ) (xs : List ℕ) → AreDistinct xs → length (filter (ties better a) xs) ≤ 1
  once a [] r = omega arith
  once a (x ∷ xs) r = elim (cases_Bool (ties better a x)) [
    | inl e ↦ rw e (let n = none_left a xs (λ h. r.0 (subst (λ (z : ℕ). IsIn z xs) (tie_same a x e) h)) in omega arith)
    | inr e ↦ rw e (once a xs r.1)
  ]
    where
      none_left : (a : ℕ) (ys : List ℕ) → (IsIn a ys → ⊥) → length (filter (ties better a) ys) ≡ 0
      none_left a [] out = refl
      none_left a (y ∷ ys) out = elim (cases_Bool (ties better a y)) [
        | inl e ↦ absurd (out (inl (tie_same a y e)))
        | inr e ↦ rw e (none_left a ys (λ h. out (inr h)))
      ]

  apart_of : (ys : List ℕ) → ((a : ℕ) → length (filter (ties better a) ys) ≤ 1) → AreDistinct ys
  apart_of [] few = tt
  apart_of (y ∷ ys) few = (
    (λ h. let one : length (filter (ties better y) (y ∷ ys)) ≤ 1 = few y in let two : suc (length (filter (ties better y) ys)) ≤ 1 = rw (ties_self y) at one in let pos = filter_pos y (ties better y) ys h (ties_self y) in absurd (omega arith)),
    apart_of ys (λ a. elim (cases_Bool (ties better a y)) [
      | inl e ↦ let one : suc (length (filter (ties better a) ys)) ≤ 1 = rw e at (few a) in omega arith
      | inr e ↦ rw e at (few a)
    ]),
  )

  at_place : (d : ℕ) (xs : List ℕ) → IsIn d xs → (j : ℕ) × (j < length xs) × (get_or xs j d ≡ d)
  at_place d [] h = absurd h
  at_place d (x ∷ xs) (inl e) = (0, omega arith, sym e)
  at_place d (x ∷ xs) (inr h) = let r = at_place d xs h in (suc r.0, omega (arith, r.1), r.2)

  behind : (y : ℕ) (ys : List ℕ) → IsSortedBy better (y ∷ ys) → (d : ℕ) → IsIn d ys → better d y ≡ false
  behind y ys up d h =
      let r = at_place d ys h in
      let far = sorted_far better weak (y ∷ ys) up 0 (suc r.0) d (omega arith) (omega (arith, r.1)) in
      subst (λ (z : ℕ). better z y ≡ false) r.2 far

  tail_up : (y : ℕ) (ys : List ℕ) → IsSortedBy better (y ∷ ys) → IsSortedBy better ys
  tail_up y ys up = λ k d low high. let h = up (suc k) d (omega arith) (omega arith) in
      let e : suc k + 1 ≡ suc (k + 1) = omega arith in
      subst (λ (n : ℕ). better (get_or (y ∷ ys) n d) (get_or ys k d) ≡ false) e h

  pub sorted_ranked : (ys : List ℕ) → IsSortedBy better ys → AreDistinct ys → IsStrictlySortedBestFirst better ys
  sorted_ranked [] up r = tt
  sorted_ranked (y ∷ ys) up r = (
    (λ d h. elim (one_of y d (λ e. r.0 (subst (λ (z : ℕ). IsIn z ys) (sym e) h))) [
      | inl g ↦ g
      | inr g ↦ absurd (no_true (sym (behind y ys up d h) ∙ g))
    ]),
    sorted_ranked ys (tail_up y ys up) r.1,
  )

  same_ranked : (xs ys : List ℕ) → IsStrictlySortedBestFirst better xs → IsStrictlySortedBestFirst better ys → ((c : ℕ) → (IsIn c xs → IsIn c ys) × (IsIn c ys → IsIn c xs)) → xs ≡ ys
  same_ranked [] [] r s same = refl
  same_ranked [] (y ∷ ys) r s same = absurd ((same y).1 (inl refl))
  same_ranked (x ∷ xs) [] r s same = absurd ((same x).0 (inl refl))
  same_ranked (x ∷ xs) (y ∷ ys) r s same =
      let head : x ≡ y = elim ((same x).0 (inl refl)) [
        | inl e ↦ e
        | inr h ↦ elim ((same y).1 (inl refl)) [ inl e ↦ sym e | inr g ↦ absurd (asym x y (r.0 y g) (s.0 x h)) ]
      ] in
      let rest : xs ≡ ys = same_ranked xs ys r.1 s.1 (λ c. (
        λ h. elim ((same c).0 (inr h)) [ inl e ↦ absurd (no_true (sym (not_self x) ∙ subst (λ (z : ℕ). better x z ≡ true) (e ∙ sym head) (r.0 c h))) | inr k ↦ k ],
        λ h. elim ((same c).1 (inr h)) [ inl e ↦ absurd (no_true (sym (not_self y) ∙ subst (λ (z : ℕ). better y z ≡ true) (e ∙ head) (s.0 c h))) | inr k ↦ k ],
      )) in
      cc

  -- places that stand apart, sorted, are their ranked list
  pub sorted_is_ranked : (xs ys : List ℕ) → AreDistinct xs → IsSortedBy better ys → IsPermutation xs ys → IsStrictlySortedBestFirst better (rank_order_of better xs) → ys ≡ rank_order_of better xs
  sorted_is_ranked xs ys r up moved is =
      let apart = apart_of ys (λ a. let few = once a xs r in omega (arith, few, moved_filter (ties better a) xs ys moved)) in
      same_ranked ys (rank_order_of better xs) (sorted_ranked ys up apart) is (λ c.
      (λ h. in_ranked better c xs (moved_member ys xs c (IsPermutation-sym xs ys moved) h), λ h. moved_member xs ys c moved (ranked_in better c xs h)))
