-- Tests of a list, an element at a time.
use Rattle.std.proofs.Common.{◌≡◌, inl, inr, ℕ, zero, suc, ◌+◌, ◌<◌, Bool, true, false, List, [], ◌∷◌, ◌++◌, length, take, arith, map, refl, sym, ap, ◌∙◌}
use Rattle.std.specs.Prelude.{Some, None, slice_get, ◌||◌, ◌&&◌}
use Rattle.std.specs.List.{find, list_all, list_any}
use Rattle.std.proofs.lemmas.List.{map-append}
use Rattle.std.proofs.lemmas.Bool.{cases_Bool}
use Rattle.candidate_core.proofs.Steps.{any_snoc, take_one_more}

module _ {X : Type 0} (p : X → Bool) where
  pub any_at : (xs : List X) (i : ℕ) (x : X) → slice_get xs i ≡ Some x → p x ≡ true → list_any p xs ≡ true
  any_at [] zero x h e = absurd (cc)
  any_at [] (suc i) x h e = absurd (cc)
  any_at (y ∷ xs) zero x h e = let s : y ≡ x = cc in rw (ap p s ∙ e) refl
  any_at (y ∷ xs) (suc i) x h e = ap (λ (b : Bool). p y || b) (any_at xs i x h e) ∙ or_true (p y)
    where
      or_true : (b : Bool) → (b || true) ≡ true
      or_true true = refl
      or_true false = refl

  pub none_next : (xs : List X) (i : ℕ) (x : X) → list_any p (take i xs) ≡ false → slice_get xs i ≡ Some x → p x ≡ false → list_any p (take (i + 1) xs) ≡ false
  none_next xs i x n h e = ap (list_any p) (take_one_more xs i x h) ∙ (any_snoc p (take i xs) x ∙ rw (n, e) refl)

  all_snoc : (xs : List X) (x : X) → list_all p (xs ++ x ∷ []) ≡ (list_all p xs && p x)
  all_snoc [] x = and_true (p x)
    where
      and_true : (b : Bool) → (b && true) ≡ b
      and_true true = refl
      and_true false = refl
  all_snoc (y ∷ xs) x = ap (λ (b : Bool). p y && b) (all_snoc xs x) ∙ sym (and_and (p y) (list_all p xs) (p x))
    where
      and_and : (a b c : Bool) → ((a && b) && c) ≡ (a && (b && c))
      and_and true b c = refl
      and_and false b c = refl

  pub all_next : (xs : List X) (i : ℕ) (x : X) → list_all p (take i xs) ≡ true → slice_get xs i ≡ Some x → p x ≡ true → list_all p (take (i + 1) xs) ≡ true
  all_next xs i x n h e = ap (list_all p) (take_one_more xs i x h) ∙ (all_snoc (take i xs) x ∙ rw (n, e) refl)

  pub not_all_at : (xs : List X) (i : ℕ) (x : X) → slice_get xs i ≡ Some x → p x ≡ false → list_all p xs ≡ false
  not_all_at [] zero x h e = absurd (cc)
  not_all_at [] (suc i) x h e = absurd (cc)
  not_all_at (y ∷ xs) zero x h e = let s : y ≡ x = cc in rw (ap p s ∙ e) refl
  not_all_at (y ∷ xs) (suc i) x h e = ap (λ (b : Bool). p y && b) (not_all_at xs i x h e) ∙ and_false (p y)
    where
      and_false : (b : Bool) → (b && false) ≡ false
      and_false true = refl
      and_false false = refl

  pub found_first : (xs : List X) (i : ℕ) (x : X) → find p (take i xs) ≡ None → slice_get xs i ≡ Some x → p x ≡ true → find p xs ≡ Some x
  found_first [] zero x n h e = absurd (cc)
  found_first [] (suc i) x n h e = absurd (cc)
  found_first (y ∷ xs) zero x n h e = let s : y ≡ x = cc in rw (ap p s ∙ e) (ap Some s)
  found_first (y ∷ xs) (suc i) x n h e = elim (cases_Bool (p y)) [
    | inl t ↦ let bad : Some y ≡ None = rw t at n in absurd (cc)
    | inr t ↦ rw t (found_first xs i x (rw t at n) h e)
  ]

  pub found_snoc : (xs : List X) (x : X) → find p xs ≡ None → p x ≡ false → find p (xs ++ x ∷ []) ≡ None
  found_snoc [] x n e = rw e refl
  found_snoc (y ∷ xs) x n e = elim (cases_Bool (p y)) [
    | inl t ↦ let bad : Some y ≡ None = rw t at n in absurd (cc)
    | inr t ↦ rw t (found_snoc xs x (rw t at n) e)
  ]

  pub not_found_next : (xs : List X) (i : ℕ) (x : X) → find p (take i xs) ≡ None → slice_get xs i ≡ Some x → p x ≡ false → find p (take (i + 1) xs) ≡ None
  not_found_next xs i x n h e = ap (find p) (take_one_more xs i x h) ∙ found_snoc (take i xs) x n e

-- one more mark
pub map_next : {X Y : Type 0} (f : X → Y) (xs : List X) (i : ℕ) (x : X) (before after : List Y) → slice_get xs i ≡ Some x → before ≡ map f (take i xs) → after ≡ before ++ f x ∷ [] → after ≡ map f (take (i + 1) xs)
map_next {X} {Y} f xs i x before after h was is =
    is ∙ (ap (λ (ys : List Y). ys ++ f x ∷ []) was ∙ (sym (map-append f (take i xs) (x ∷ [])) ∙ ap (map f) (sym (take_one_more xs i x h))))

pub unmarked_next : {X : Type 0} (xs : List X) (i : ℕ) (before after : List Bool) → i < length xs → before ≡ map (λ (x : X). false) (take i xs) → after ≡ before ++ false ∷ [] → after ≡ map (λ (x : X). false) (take (i + 1) xs)
unmarked_next {X} xs i before after h was is =
    let z : i + 1 ≡ suc i = omega arith in
    is ∙ (ap (λ (ms : List Bool). ms ++ false ∷ []) was ∙ (front xs i h ∙ ap (λ (n : ℕ). map (λ (x : X). false) (take n xs)) (sym z)))
  where
    front : (ys : List X) (n : ℕ) → n < length ys → map (λ (x : X). false) (take n ys) ++ false ∷ [] ≡ map (λ (x : X). false) (take (suc n) ys)
    front [] n g = absurd (omega (arith, g))
    front (y ∷ ys) zero g = refl
    front (y ∷ ys) (suc n) g = ap (λ (ms : List Bool). false ∷ ms) (front ys n (omega (arith, g)))
