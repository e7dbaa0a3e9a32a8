-- What a search finds in parts of a list.
use Rattle.std.proofs.Common.{◌≡◌, ℕ, suc, zero, ◌<◌, ◌≤◌, Bool, true, false, cond, List, [], ◌∷◌, ◌++◌, length, drop, take, Option, Some, None, refl, ap, sym, ◌∙◌, subst, arith}
use Rattle.std.specs.Prelude.{slice_get}
use Rattle.std.specs.List.{AllWithin, filter, find}
use Rattle.base_core.proofs.Sorting.{Each}
use Rattle.path_claims.proofs.Places.{no_some, value_or}

abbrev pub or_found : {X : Type 0} → Option X → Option X → Option X
or_found None b = b
or_found (Some a) b = Some a

pub found_both : {X : Type 0} (p : X → Bool) (xs ys : List X) → find p (xs ++ ys) ≡ or_found (find p xs) (find p ys)
found_both p [] ys = refl
found_both p (x ∷ xs) ys = go (p x) (found_both p xs ys)
  where
    go : (b : Bool) → find p (xs ++ ys) ≡ or_found (find p xs) (find p ys) → cond b (Some x) (find p (xs ++ ys)) ≡ or_found (cond b (Some x) (find p xs)) (find p ys)
    go true h = refl
    go false h = h

pub found_skip : {X : Type 0} (p : X → Bool) (i : ℕ) (xs : List X) → Each (λ x. p x ≡ false) (take i xs) → find p xs ≡ find p (drop i xs)
found_skip p zero xs h = refl
found_skip p (suc i) [] h = refl
found_skip p (suc i) (x ∷ xs) h = ap (λ b. cond b (Some x) (find p xs)) h.0 ∙ found_skip p i xs h.1

pub found_none : {X : Type 0} (p : X → Bool) (xs : List X) → Each (λ x. p x ≡ false) xs → find p xs ≡ None
found_none p [] h = refl
found_none p (x ∷ xs) h = ap (λ b. cond b (Some x) (find p xs)) h.0 ∙ found_none p xs h.1

-- what is found passes, and is what each element is
pub found_is : {X : Type 0} (p : X → Bool) (P : X → Type 0) (xs : List X) (x : X) → Each P xs → find p xs ≡ Some x → P x × (p x ≡ true)
found_is p P [] x h e = absurd (no_some x e)
found_is p P (y ∷ ys) x h e = go (p y) refl (found_is p P ys x h.1) e
  where
    go : (b : Bool) → p y ≡ b → (find p ys ≡ Some x → P x × (p x ≡ true)) → cond b (Some y) (find p ys) ≡ Some x → P x × (p x ≡ true)
    go true t rest e = let is : y ≡ x = ap (value_or y) e in (subst P is h.0, subst (λ z. p z ≡ true) is t)
    go false t rest e = rest e

pub found_passes : {X : Type 0} (p : X → Bool) (xs : List X) (x : X) → find p xs ≡ Some x → p x ≡ true
found_passes p xs x e = (found_is p (λ z. Unit {0}) xs x (all xs) e).1
  where
    all : {X : Type 0} (xs : List X) → Each (λ z. Unit {0}) xs
    all [] = tt
    all (x ∷ xs) = (tt, all xs)

found_past : {X : Type 0} (b : Bool) (z : X) (found : Option X) → (y : X) × (found ≡ Some y) → (y : X) × (cond b (Some z) found ≡ Some y)
found_past true z found h = (z, refl)
found_past false z found h = h

-- where an element passes, one is found
pub found_some : {X : Type 0} (p : X → Bool) (xs : List X) (i : ℕ) (x : X) → slice_get xs i ≡ Some x → p x ≡ true → (y : X) × (find p xs ≡ Some y)
found_some p [] i x g t = absurd (no_some x g)
found_some p (z ∷ xs) zero x g t = (z, ap (λ b. cond b (Some z) (find p xs)) (ap p (ap (value_or z) g) ∙ t))
found_some p (z ∷ xs) (suc i) x g t = found_past (p z) z (find p xs) (found_some p xs i x g t)

pub found_ext : {X : Type 0} (p q : X → Bool) → ((x : X) → p x ≡ q x) → (xs : List X) → find p xs ≡ find q xs
found_ext p q h [] = refl
found_ext p q h (x ∷ xs) = λ j. cond (h x j) (Some x) (found_ext p q h xs j)

-- the first of a list
abbrev pub first_of : {X : Type 0} → List X → Option X
first_of [] = None
first_of (x ∷ xs) = Some x

pub found_first : {X : Type 0} (p : X → Bool) (xs : List X) → find p xs ≡ first_of (filter p xs)
found_first p [] = refl
found_first p (x ∷ xs) = go (p x) (found_first p xs)
  where
    go : (b : Bool) → find p xs ≡ first_of (filter p xs) → cond b (Some x) (find p xs) ≡ first_of (cond b (x ∷ filter p xs) (filter p xs))
    go true h = refl
    go false h = h

pub filter_swap : {X : Type 0} (p q : X → Bool) (xs : List X) → filter p (filter q xs) ≡ filter q (filter p xs)
filter_swap p q [] = refl
filter_swap p q (x ∷ xs) = go (p x) (q x) refl refl (filter_swap p q xs)
  where
    go : (a b : Bool) → p x ≡ a → q x ≡ b → filter p (filter q xs) ≡ filter q (filter p xs)
        → filter p (cond b (x ∷ filter q xs) (filter q xs)) ≡ filter q (cond a (x ∷ filter p xs) (filter p xs))
    go true true e f h = ap (λ t. cond t (x ∷ filter p (filter q xs)) (filter p (filter q xs))) e ∙ (ap (λ r. x ∷ r) h ∙ sym (ap (λ t. cond t (x ∷ filter q (filter p xs)) (filter q (filter p xs))) f))
    go true false e f h = h ∙ sym (ap (λ t. cond t (x ∷ filter q (filter p xs)) (filter q (filter p xs))) f)
    go false true e f h = ap (λ t. cond t (x ∷ filter p (filter q xs)) (filter p (filter q xs))) e ∙ h
    go false false e f h = h

-- the search among those that pass another test
pub found_filtered : {X : Type 0} (p q : X → Bool) (xs : List X) → find p (filter q xs) ≡ find q (filter p xs)
found_filtered p q xs = found_first p (filter q xs) ∙ (ap first_of (filter_swap p q xs) ∙ sym (found_first q (filter p xs)))

-- ---- places

pub each_below : {X : Type 0} (P : X → Type 0) (xs : List X) (i : ℕ) → i ≤ length xs → AllWithin P xs 0 i → Each P (take i xs)
each_below P xs zero l h = tt
each_below P [] (suc i) l h = tt
each_below P (x ∷ xs) (suc i) l h = (h zero x (omega arith) (omega arith), each_below P xs i (omega arith) (λ k d m n. h (suc k) d (omega arith) (omega (arith, n))))

pub each_above : {X : Type 0} (P : X → Type 0) (xs : List X) (i : ℕ) → AllWithin P xs i (length xs) → Each P (drop i xs)
each_above P [] zero h = tt
each_above P [] (suc i) h = tt
each_above P (x ∷ xs) zero h = (h zero x (omega arith) (omega arith), each_above P xs zero (λ k d m n. h (suc k) d (omega arith) (omega (arith, n))))
each_above P (x ∷ xs) (suc i) h = each_above P xs i (λ k d m n. h (suc k) d (omega (arith, m)) (omega (arith, n)))

pub drop_at : {X : Type 0} (xs : List X) (i : ℕ) (x : X) → slice_get xs i ≡ Some x → drop i xs ≡ x ∷ drop (suc i) xs
drop_at [] i x g = absurd (no_some x g)
drop_at (z ∷ xs) zero x g = ap (λ v. v ∷ xs) (ap (value_or z) g)
drop_at (z ∷ xs) (suc i) x g = drop_at xs i x g

pub drop_past : {X : Type 0} (xs : List X) (i : ℕ) → length xs ≤ i → drop i xs ≡ []
drop_past [] zero l = refl
drop_past [] (suc i) l = refl
drop_past (x ∷ xs) zero l = absurd (omega arith)
drop_past (x ∷ xs) (suc i) l = drop_past xs i (omega arith)

pub take_at : {X : Type 0} (xs : List X) (i : ℕ) (x : X) → slice_get xs i ≡ Some x → take (suc i) xs ≡ take i xs ++ x ∷ []
take_at [] i x g = absurd (no_some x g)
take_at (z ∷ xs) zero x g = ap (λ v. v ∷ []) (ap (value_or z) g)
take_at (z ∷ xs) (suc i) x g = ap (λ r. z ∷ r) (take_at xs i x g)

pub take_whole : {X : Type 0} (xs : List X) (i : ℕ) → length xs ≤ i → take i xs ≡ xs
take_whole [] zero l = refl
take_whole [] (suc i) l = refl
take_whole (x ∷ xs) zero l = absurd (omega arith)
take_whole (x ∷ xs) (suc i) l = ap (λ r. x ∷ r) (take_whole xs i (omega arith))

pub some_at : {X : Type 0} (xs : List X) (i : ℕ) → i < length xs → (x : X) × (slice_get xs i ≡ Some x)
some_at [] i l = absurd (omega arith)
some_at (x ∷ xs) zero l = (x, refl)
some_at (x ∷ xs) (suc i) l = some_at xs i (omega arith)
