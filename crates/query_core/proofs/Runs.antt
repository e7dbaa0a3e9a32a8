-- Lists by their places, and what is the same along a run of them.
use Rattle.std.proofs.Common.{◌≡◌, inl, inr, ℕ, zero, suc, ◌+◌, ◌<◌, ◌≤◌, Bool, true, false, List, [], ◌∷◌, length, drop, take, map, refl, sym, ap, ◌∙◌, arith}
use Rattle.std.specs.Prelude.{Option, Some, None, slice_get, ◌&&◌, ◌||◌}
use Rattle.std.specs.List.{cons_option, filter, filter_map, list_any}
use Rattle.std.proofs.lemmas.Slice.Eq.{bytes_eq-Decides}
use Rattle.std.proofs.Math.Bool.{or-true}
use Rattle.std.proofs.lemmas.Bool.{cases_Bool}
use Rattle.pool_core.proofs.SamePackage.{same_version}
use Rattle.pool_core.specs.candidate_core.Candidates.{is_same_version}
use Rattle.pool_core.specs.candidate_core.Options.{IsIn}
use Rattle.pool_core.proofs.candidate_core.LoopTests.{any_at}
use Rattle.query_core.specs.Policy.{versions_except_those_repeated_later}

pub bool_same : (a b : Bool) → (a ≡ true → b ≡ true) → (b ≡ true → a ≡ true) → a ≡ b
bool_same true b to from = sym (to refl)
bool_same false true to from = from refl
bool_same false false to from = refl

-- ---- what is at a place

pub mapped_at : {X Y : Type 0} (f : X → Y) (xs : List X) (i : ℕ) (x : X) → slice_get xs i ≡ Some x → slice_get (map f xs) i ≡ Some (f x)
mapped_at f [] zero x h = absurd (cc)
mapped_at f [] (suc i) x h = absurd (cc)
mapped_at f (y ∷ xs) zero x h = let s : y ≡ x = cc in ap (λ z. Some (f z)) s
mapped_at f (y ∷ xs) (suc i) x h = mapped_at f xs i x h

pub from_mapped : {X Y : Type 0} (f : X → Y) (xs : List X) (i : ℕ) (y : Y) → slice_get (map f xs) i ≡ Some y → (x : X) × ((slice_get xs i ≡ Some x) × (f x ≡ y))
from_mapped f [] zero y h = absurd (cc)
from_mapped f [] (suc i) y h = absurd (cc)
from_mapped f (x ∷ xs) zero y h = let s : f x ≡ y = cc in (x, (refl, s))
from_mapped f (x ∷ xs) (suc i) y h = from_mapped f xs i y h

pub at_some_place : {X : Type 0} (xs : List X) (x : X) → IsIn x xs → (i : ℕ) × (slice_get xs i ≡ Some x)
at_some_place [] x h = absurd h
at_some_place (y ∷ xs) x (inl e) = (0, ap Some (sym e))
at_some_place (y ∷ xs) x (inr h) = let r = at_some_place xs x h in (suc r.0, r.1)

pub is_in_at : {X : Type 0} (xs : List X) (i : ℕ) (x : X) → slice_get xs i ≡ Some x → IsIn x xs
is_in_at [] zero x h = absurd (cc)
is_in_at [] (suc i) x h = absurd (cc)
is_in_at (y ∷ xs) zero x h = let s : x ≡ y = cc in inl s
is_in_at (y ∷ xs) (suc i) x h = inr (is_in_at xs i x h)

pub below_length : {X : Type 0} (xs : List X) (i : ℕ) (x : X) → slice_get xs i ≡ Some x → i < length xs
below_length [] zero x h = absurd (cc)
below_length [] (suc i) x h = absurd (cc)
below_length (y ∷ xs) zero x h = omega arith
below_length (y ∷ xs) (suc i) x h = let r = below_length xs i x h in omega (arith, r)

pub dropped_at : {X : Type 0} (xs : List X) (n i : ℕ) → slice_get (drop n xs) i ≡ slice_get xs (n + i)
dropped_at xs zero i = ap (slice_get xs) (omega arith)
dropped_at [] (suc n) i = refl
dropped_at (x ∷ xs) (suc n) i = let z : suc n + i ≡ suc (n + i) = omega arith in dropped_at xs n i ∙ ap (slice_get (x ∷ xs)) (sym z)

pub dropped_twice : {X : Type 0} (xs : List X) (m n : ℕ) → drop n (drop m xs) ≡ drop (m + n) xs
dropped_twice xs zero n = ap (λ (k : ℕ). drop k xs) (omega arith)
dropped_twice {X} [] (suc m) n = nothing n ∙ sym (nothing (suc m + n))
  where
    nothing : (k : ℕ) → drop {A = X} k [] ≡ []
    nothing zero = refl
    nothing (suc k) = refl
dropped_twice (x ∷ xs) (suc m) n = let z : suc m + n ≡ suc (m + n) = omega arith in dropped_twice xs m n ∙ ap (λ (k : ℕ). drop k (x ∷ xs)) (sym z)

pub mapped_drop : {X Y : Type 0} (f : X → Y) (xs : List X) (n : ℕ) → map f (drop n xs) ≡ drop n (map f xs)
mapped_drop f xs zero = refl
mapped_drop f [] (suc n) = refl
mapped_drop f (x ∷ xs) (suc n) = mapped_drop f xs n

pub taken_at : {X : Type 0} (xs : List X) (n i : ℕ) → i < n → slice_get (take n xs) i ≡ slice_get xs i
taken_at xs zero i low = absurd (omega (arith, low))
taken_at [] (suc n) i low = refl
taken_at (x ∷ xs) (suc n) zero low = refl
taken_at (x ∷ xs) (suc n) (suc i) low = taken_at xs n i (omega (arith, low))

pub below_taken : {X : Type 0} (xs : List X) (n i : ℕ) (x : X) → slice_get (take n xs) i ≡ Some x → i < n
below_taken xs zero zero x h = absurd (cc)
below_taken xs zero (suc i) x h = absurd (cc)
below_taken [] (suc n) zero x h = absurd (cc)
below_taken [] (suc n) (suc i) x h = absurd (cc)
below_taken (y ∷ xs) (suc n) zero x h = omega arith
below_taken (y ∷ xs) (suc n) (suc i) x h = let r = below_taken xs n i x h in omega (arith, r)

-- ---- tests

pub any_filtered : {X : Type 0} (p q : X → Bool) (xs : List X) → list_any q (filter p xs) ≡ list_any (λ (x : X). p x && q x) xs
any_filtered p q [] = refl
any_filtered p q (x ∷ xs) = elim (cases_Bool (p x)) [
  | inl e ↦ rw e (ap (λ (b : Bool). q x || b) (any_filtered p q xs))
  | inr e ↦ rw e (any_filtered p q xs)
]

-- one passes, at some place
pub passes_at : {X : Type 0} (q : X → Bool) (xs : List X) → list_any q xs ≡ true → (i : ℕ) × ((x : X) × ((slice_get xs i ≡ Some x) × (q x ≡ true)))
passes_at q [] h = absurd (cc)
passes_at q (x ∷ xs) h = elim (cases_Bool (q x)) [
  | inl e ↦ (0, (x, (refl, e)))
  | inr e ↦ let r = passes_at q xs (rw e at h) in (suc r.0, (r.1.0, (r.1.1.0, r.1.1.1)))
]

any_later : {Y : Type 0} (q : Y → Bool) (o : Option Y) (ys : List Y) → list_any q ys ≡ true → list_any q (cons_option o ys) ≡ true
any_later q None ys h = h
any_later q (Some w) ys h = ap (λ (b : Bool). q w || b) h ∙ or-true (q w)

module _ {X Y : Type 0} (g : X → Option Y) (q : Y → Bool) where
  pub any_found_at : (xs : List X) (i : ℕ) (x : X) (y : Y) → slice_get xs i ≡ Some x → g x ≡ Some y → q y ≡ true → list_any q (filter_map g xs) ≡ true
  any_found_at [] zero x y h e t = absurd (cc)
  any_found_at [] (suc i) x y h e t = absurd (cc)
  any_found_at (z ∷ xs) zero x y h e t = let s : z ≡ x = cc in rw (ap g s ∙ e, t) refl
  any_found_at (z ∷ xs) (suc i) x y h e t = any_later q (g z) (filter_map g xs) (any_found_at xs i x y h e t)

  -- something is found at a place of the list, and passes
  abbrev pub IsFoundAt : List X → Type 0
  IsFoundAt xs = (i : ℕ) × ((x : X) × ((y : Y) × ((slice_get xs i ≡ Some x) × ((g x ≡ Some y) × (q y ≡ true)))))

  found_next : (z : X) (xs : List X) (o : Option Y) → g z ≡ o → (list_any q (filter_map g xs) ≡ true → IsFoundAt xs) → list_any q (cons_option o (filter_map g xs)) ≡ true → IsFoundAt (z ∷ xs)
  found_next z xs None e again m = let r = again m in (suc r.0, r.1)
  found_next z xs (Some w) e again m = elim (cases_Bool (q w)) [
    | inl t ↦ (0, (z, (w, (refl, (e, t)))))
    | inr t ↦ let r = again (rw t at m) in (suc r.0, r.1)
  ]

  pub found_any_at : (xs : List X) → list_any q (filter_map g xs) ≡ true → IsFoundAt xs
  found_any_at [] h = absurd (cc)
  found_any_at (z ∷ xs) h = found_next z xs (g z) refl (λ m. found_any_at xs m) h

-- ---- versions

pub same_text : (o : Option (List ℕ)) → is_same_version o o ≡ true
same_text None = refl
same_text (Some x) = (bytes_eq-Decides x x).1 refl

none_same : (v : Option (List ℕ)) (vs : List (Option (List ℕ))) → ((m : ℕ) → slice_get vs m ≡ Some v → ⊥) → list_any (is_same_version v) vs ≡ false
none_same v [] out = refl
none_same v (w ∷ vs) out = elim (cases_Bool (is_same_version v w)) [
  | inl e ↦ absurd (out 0 (ap Some (sym (same_version v w e))))
  | inr e ↦ rw e (none_same v vs (λ m h. out (suc m) h))
]

-- a run of one version, which is not found after it, is left once
pub once_run : (vs : List (Option (List ℕ))) (n : ℕ) (v : Option (List ℕ)) → 0 < n → ((m : ℕ) → m < n → slice_get vs m ≡ Some v) → ((m : ℕ) → n ≤ m → slice_get vs m ≡ Some v → ⊥) → versions_except_those_repeated_later vs ≡ v ∷ versions_except_those_repeated_later (drop n vs)
once_run vs zero v some same out = absurd (omega (arith, some))
once_run [] (suc n) v some same out = let bad = same 0 (omega arith) in absurd (cc)
once_run (w ∷ vs) (suc zero) v some same out =
    let first = same 0 (omega arith) in
    let is : w ≡ v = cc in
    let none : list_any (is_same_version w) vs ≡ false = ap (λ (x : Option (List ℕ)). list_any (is_same_version x) vs) is ∙ none_same v vs (λ m h. out (suc m) (omega arith) h) in
    rw none (ap (λ (x : Option (List ℕ)). x ∷ versions_except_those_repeated_later vs) is)
once_run (w ∷ vs) (suc (suc n)) v some same out =
    let first = same 0 (omega arith) in
    let is : w ≡ v = cc in
    let next : slice_get vs 0 ≡ Some v = same 1 (omega arith) in
    let again : list_any (is_same_version w) vs ≡ true = any_at (is_same_version w) vs 0 v next (ap (λ (x : Option (List ℕ)). is_same_version x v) is ∙ same_text v) in
    rw again (once_run vs (suc n) v (omega arith) (λ m h. same (suc m) (omega (arith, h))) (λ m h e. out (suc m) (omega (arith, h)) e))
