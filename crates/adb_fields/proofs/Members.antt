-- What is in a list, by recursion on it.
use Rattle.std.proofs.Common.{◌≡◌, ℕ, suc, zero, ◌<◌, ◌⊎◌, List, [], ◌∷◌, ◌++◌, map, length, get_or, refl, ap, sym, subst, arith, inl, inr}
use Rattle.std.specs.List.{flat_map, Contains}
use Rattle.std.specs.List.Sorted.{IsPermutation}
use Rattle.std.proofs.lemmas.List.Sorted.{Contains-permutation}
use Rattle.adb_fields.specs.FirstPair.{IsIn}

pub in-front : {A : Type 0} (z : A) (xs ys : List A) → IsIn z xs → IsIn z (xs ++ ys)
in-front z [] ys h = absurd h
in-front z (x ∷ xs) ys (inl e) = inl e
in-front z (x ∷ xs) ys (inr h) = inr (in-front z xs ys h)

pub in-behind : {A : Type 0} (z : A) (xs ys : List A) → IsIn z ys → IsIn z (xs ++ ys)
in-behind z [] ys h = h
in-behind z (x ∷ xs) ys h = inr (in-behind z xs ys h)

or-more : {A : Type 0} (z x : A) (xs ys : List A) → IsIn z xs ⊎ IsIn z ys → IsIn z (x ∷ xs) ⊎ IsIn z ys
or-more z x xs ys (inl h) = inl (inr h)
or-more z x xs ys (inr h) = inr h

pub in-either : {A : Type 0} (z : A) (xs ys : List A) → IsIn z (xs ++ ys) → IsIn z xs ⊎ IsIn z ys
in-either z [] ys h = inr h
in-either z (x ∷ xs) ys (inl e) = inl (inl e)
in-either z (x ∷ xs) ys (inr h) = or-more z x xs ys (in-either z xs ys h)

pub in-map : {A B : Type 0} (f : A → B) (x : A) (xs : List A) → IsIn x xs → IsIn (f x) (map f xs)
in-map f x [] h = absurd h
in-map f x (y ∷ xs) (inl e) = inl (ap f e)
in-map f x (y ∷ xs) (inr h) = inr (in-map f x xs h)

pub from-map : {A B : Type 0} (f : A → B) (z : B) (xs : List A) → IsIn z (map f xs) → (x : A) × IsIn x xs × (z ≡ f x)
from-map f z [] h = absurd h
from-map f z (y ∷ xs) (inl e) = (y, inl refl, e)
from-map f z (y ∷ xs) (inr h) = let r = from-map f z xs h in (r.0, inr r.1, r.2)

pub in-flat_map : {A B : Type 0} (f : A → List B) (z : B) (x : A) (xs : List A) → IsIn x xs → IsIn z (f x) → IsIn z (flat_map f xs)
in-flat_map f z x [] h g = absurd h
in-flat_map f z x (y ∷ xs) (inl e) g = let P = λ (y : _). IsIn z (f y) in in-front z (f y) (flat_map f xs) (subst P e g)
in-flat_map f z x (y ∷ xs) (inr h) g = in-behind z (f y) (flat_map f xs) (in-flat_map f z x xs h g)

pub from-flat_map : {A B : Type 0} (f : A → List B) (z : B) (xs : List A) → IsIn z (flat_map f xs) → (x : A) × IsIn x xs × IsIn z (f x)
from-flat_map f z [] h = absurd h
from-flat_map f z (x ∷ xs) h =
    elim (in-either z (f x) (flat_map f xs) h) [ inl g ↦ (x, inl refl, g) | inr g ↦ (let r = from-flat_map f z xs g in (r.0, inr r.1, r.2)) ]

-- ---- by index

pub in-from_index : {A : Type 0} (x d : A) (xs : List A) (k : ℕ) → k < length xs → get_or xs k d ≡ x → IsIn x xs
in-from_index x d [] k h e = absurd (omega arith)
in-from_index x d (y ∷ xs) zero h e = inl (sym e)
in-from_index x d (y ∷ xs) (suc k) h e = inr (in-from_index x d xs k (omega arith) e)

pub contains-from_in : {A : Type 0} (x : A) (xs : List A) → IsIn x xs → Contains xs x
contains-from_in x [] h = absurd h
contains-from_in x (y ∷ xs) (inl e) = (0, omega arith, sym e)
contains-from_in x (y ∷ xs) (inr h) = let r = contains-from_in x xs h in (suc r.0, omega arith, r.2)

pub in-permuted : {A : Type 0} (x : A) (xs ys : List A) → IsPermutation xs ys → IsIn x xs → IsIn x ys
in-permuted x xs ys p h = let r = Contains-permutation xs ys x p (contains-from_in x xs h) in in-from_index x x ys r.0 r.1 r.2
