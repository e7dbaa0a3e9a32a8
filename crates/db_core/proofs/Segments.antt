-- Elements that take so many flags each, one more at a time.
use Rattle.std.proofs.Common.{◌≡◌, ℕ, suc, zero, ◌+◌, ◌≤◌, Bool, true, false, List, [], ◌∷◌, drop, length, Option, Some, None, refl, ap, sym, ◌∙◌, arith, true≢false}
use Rattle.std.specs.Prelude.{slice_get}
use Rattle.adb_view.specs.Plain.{Plain}
use Rattle.adb_copy.specs.adb_values.Drafts.{DraftState, draft_with_open_list, draft_with, draft_with_all}
use Rattle.adb_copy.proofs.adb_values.Lists.{drop_all, drop_at}
use Rattle.db_core.specs.NewDatabase.{values_by_successive_flags, total_of}

-- the flags that are left for an element and those behind it
abbrev pub left_flags : {X : Type 0} → (X → ℕ) → ℕ → List X → List Bool → List Bool
left_flags count zero xs flags = flags
left_flags count (suc i) [] flags = flags
left_flags count (suc i) (x ∷ xs) flags = left_flags count i xs (drop (count x) flags)

abbrev no_flags : List Bool
no_flags = []

is_there : {X : Type 0} → Option X → Bool
is_there None = false
is_there (Some x) = true

none_there : {X : Type 0} (x : X) → None ≡ Some x → ⊥
unfolding is_there
none_there x e = true≢false (sym (ap is_there e))

value_or : {X : Type 0} → X → Option X → X
value_or d None = d
value_or d (Some x) = x

same_there : {X : Type 0} (x y : X) → Some x ≡ Some y → x ≡ y
unfolding value_or
same_there x y e = ap (value_or x) e

abbrev no_elements : {X : Type 0} → List X
no_elements = []

no_element : {X : Type 0} (i : ℕ) (x : X) → slice_get no_elements i ≡ Some x → ⊥
no_element zero x e = none_there x e
no_element (suc i) x e = none_there x e

no_more : (n : ℕ) → drop n no_flags ≡ []
no_more zero = refl
no_more (suc n) = refl

pub drop_past : (n : ℕ) (bs : List Bool) → length bs ≤ n → drop n bs ≡ []
drop_past n [] h = no_more n
drop_past zero (b ∷ bs) h = absurd (omega arith)
drop_past (suc n) (b ∷ bs) h = drop_past n bs (omega arith)

drop_twice : (m n : ℕ) (bs : List Bool) → drop n (drop m bs) ≡ drop (m + n) bs
drop_twice zero n bs = let e : n ≡ zero + n = omega arith in ap (λ k. drop k bs) e
drop_twice (suc m) n [] = no_more n ∙ sym (no_more (suc m + n))
drop_twice (suc m) n (b ∷ bs) =
    let e : suc (m + n) ≡ suc m + n = omega arith in
    drop_twice m n bs ∙ ap (λ k. drop k (b ∷ bs)) e

module _ {X : Type 0} (count : X → ℕ) (value : X → List Bool → Plain) where
  pub left_more : (xs : List X) (flags : List Bool) (i : ℕ) (x : X) → slice_get xs i ≡ Some x
      → left_flags count (suc i) xs flags ≡ drop (count x) (left_flags count i xs flags)
  left_more [] flags i x e = absurd (no_element i x e)
  left_more (y ∷ ys) flags zero x e = ap (λ z. drop (count z) flags) (same_there y x e)
  left_more (y ∷ ys) flags (suc i) x e = left_more ys (drop (count y) flags) i x e

  pub all_left : (xs : List X) (flags : List Bool) (i : ℕ) → length xs ≤ i → left_flags count i xs flags ≡ drop (total_of count xs) flags
  all_left [] flags zero h = refl
  all_left [] flags (suc i) h = refl
  all_left (x ∷ xs) flags zero h = absurd (omega arith)
  all_left (x ∷ xs) flags (suc i) h = all_left xs (drop (count x) flags) i (omega arith) ∙ drop_twice (count x) (total_of count xs) flags

  -- one element more is passed
  pub left_next : (xs : List X) (flags : List Bool) (i : ℕ) (left further : List Bool) (x : X) → slice_get xs i ≡ Some x → left ≡ left_flags count i xs flags → further ≡ drop (count x) left
      → further ≡ left_flags count (i + 1) xs flags
  left_next xs flags i left further x at is fe =
      let n : i + 1 ≡ suc i = omega arith in
      fe ∙ (ap (drop (count x)) is ∙ (sym (left_more xs flags i x at) ∙ ap (λ k. left_flags count k xs flags) (sym n)))

  -- one element more is given, with the flags from its first one on: those that are left, behind the
  -- draft so far, come to the whole
  pub given_more : (xs : List X) (i : ℕ) (x : X) (left further : List Bool) (old new whole : DraftState) → slice_get xs i ≡ Some x
      → draft_with_all (values_by_successive_flags count value (drop i xs) left) old ≡ whole → new ≡ draft_with (value x left) old → further ≡ drop (count x) left
      → draft_with_all (values_by_successive_flags count value (drop (i + 1) xs) further) new ≡ whole
  given_more xs i x left further old new whole at so one fe =
      ap (λ (bs : List Bool). draft_with_all (values_by_successive_flags count value (drop (i + 1) xs) bs) new) fe
      ∙ ap (λ (d : DraftState). draft_with_all (values_by_successive_flags count value (drop (i + 1) xs) (drop (count x) left)) d) one
      ∙ sym (ap (λ (ys : List X). draft_with_all (values_by_successive_flags count value ys left) old) (drop_at xs i x at)) ∙ so

  -- all are given to a list that was opened
  pub all_given : (xs : List X) (flags left : List Bool) (i : ℕ) (d opened before : DraftState) → length xs ≤ i
      → draft_with_all (values_by_successive_flags count value (drop i xs) left) d ≡ draft_with_all (values_by_successive_flags count value xs flags) opened → opened ≡ draft_with_open_list before
      → d ≡ draft_with_all (values_by_successive_flags count value xs flags) (draft_with_open_list before)
  all_given xs flags left i d opened before h so is =
      sym (ap (λ (ys : List X). draft_with_all (values_by_successive_flags count value ys left) d) (drop_all xs i h))
      ∙ so ∙ ap (λ (e : DraftState). draft_with_all (values_by_successive_flags count value xs flags) e) is
