-- The elements of a list, of those that pass a test, and the first of them.
use Rattle.std.proofs.Common.{◌≡◌, ◌⊎◌, inl, inr, ◌∙◌, ◌<◌, ℕ, zero, suc, Bool, true, false, cond, List, [], ◌∷◌, length, get_or, map, Contains, Some, refl, ap, sym, subst, true≢false, arith}
use Rattle.std.specs.List.{filter, find, list_any}
use Rattle.std.specs.Cmp.{both_ways}
use Rattle.std.specs.Str.{bytes_eq}
use Rattle.std.proofs.lemmas.Bool.{or_cases, or_left, or_right}
use Rattle.std.proofs.lemmas.Slice.Eq.{bytes_eq-Decides}
use Rattle.base_core.proofs.Rising.{IsIn}

abbrev pub IsOneOf : {X : Type 0} → X → List X → Type 0
IsOneOf x [] = ⊥
IsOneOf x (y ∷ ys) = (x ≡ y) ⊎ IsOneOf x ys

pub found_passes : {X : Type 0} (p : X → Bool) (xs : List X) (x : X) → find p xs ≡ Some x → IsOneOf x xs × (p x ≡ true)
found_passes p [] x e = absurd (cc)
found_passes {X} p (y ∷ ys) x e = by_test (p y) refl e (found_passes p ys x)
  where
    by_test : (b : Bool) → p y ≡ b → cond b (Some y) (find p ys) ≡ Some x → (find p ys ≡ Some x → IsOneOf x ys × (p x ≡ true)) → IsOneOf x (y ∷ ys) × (p x ≡ true)
    by_test true t e f = let same : x ≡ y = (cc) in (inl same, ap p same ∙ t)
    by_test false t e f = let found = f e in (inr found.0, found.1)

pub kept_passes : {X : Type 0} (p : X → Bool) (xs : List X) (x : X) → IsOneOf x (filter p xs) → IsOneOf x xs × (p x ≡ true)
kept_passes p [] x here = absurd here
kept_passes {X} p (y ∷ ys) x here = by_test (p y) refl here (kept_passes p ys x)
  where
    by_test : (b : Bool) → p y ≡ b → IsOneOf x (cond b (y ∷ filter p ys) (filter p ys)) → (IsOneOf x (filter p ys) → IsOneOf x ys × (p x ≡ true)) → IsOneOf x (y ∷ ys) × (p x ≡ true)
    by_test true t (inl is) f = (inl is, ap p is ∙ t)
    by_test true t (inr more) f = let found = f more in (inr found.0, found.1)
    by_test false t here f = let found = f here in (inr found.0, found.1)

pub passing_kept : {X : Type 0} (p : X → Bool) (xs : List X) (x : X) → IsOneOf x xs → p x ≡ true → IsOneOf x (filter p xs)
passing_kept p [] x here passes = here
passing_kept {X} p (y ∷ ys) x here passes = by_test (p y) refl here (λ more. passing_kept p ys x more passes)
  where
    by_test : (b : Bool) → p y ≡ b → IsOneOf x (y ∷ ys) → (IsOneOf x ys → IsOneOf x (filter p ys)) → IsOneOf x (cond b (y ∷ filter p ys) (filter p ys))
    by_test true t (inl is) f = inl is
    by_test true t (inr more) f = inr (f more)
    by_test false t (inl is) f = absurd (true≢false (sym passes ∙ (ap p is ∙ t)))
    by_test false t (inr more) f = f more

pub any_passes : {X : Type 0} (p : X → Bool) (xs : List X) (x : X) → IsOneOf x xs → p x ≡ true → list_any p xs ≡ true
any_passes p [] x here passes = absurd here
any_passes p (y ∷ ys) x (inl is) passes = or_left (p y) (list_any p ys) (ap p (sym is) ∙ passes)
any_passes p (y ∷ ys) x (inr more) passes = or_right (p y) (list_any p ys) (any_passes p ys x more passes)

pub seen_in : {X : Type 0} (f : X → List ℕ) (xs : List X) (x : X) → IsOneOf x xs → IsIn (f x) (map f xs)
seen_in f [] x here = here
seen_in f (y ∷ ys) x (inl is) = inl (ap f is)
seen_in f (y ∷ ys) x (inr more) = inr (seen_in f ys x more)

-- the test on names
pub any_name : (q : List ℕ) (names : List (List ℕ)) → IsIn q names → list_any (bytes_eq q) names ≡ true
any_name q [] here = absurd here
any_name q (x ∷ xs) (inl is) = or_left (bytes_eq q x) (list_any (bytes_eq q) xs) ((bytes_eq-Decides q x).1 is)
any_name q (x ∷ xs) (inr more) = or_right (bytes_eq q x) (list_any (bytes_eq q) xs) (any_name q xs more)

-- ---- as std says it

pub contains_from_one : {X : Type 0} (xs : List X) (q : X) → IsOneOf q xs → Contains xs q
contains_from_one [] q h = absurd h
contains_from_one (x ∷ xs) q (inl is) = (0, omega arith, sym is)
contains_from_one (x ∷ xs) q (inr more) = let found = contains_from_one xs q more in (suc found.0, omega (arith, found.1), found.2)

one_at : {X : Type 0} (xs : List X) (k : ℕ) (d : X) → k < length xs → IsOneOf (get_or xs k d) xs
one_at [] k d below = absurd (omega (arith, below))
one_at (x ∷ xs) zero d below = inl refl
one_at (x ∷ xs) (suc k) d below = inr (one_at xs k d (omega (arith, below)))

pub one_from_contains : {X : Type 0} (xs : List X) (q : X) → Contains xs q → IsOneOf q xs
one_from_contains {X} xs q found = let P : X → Type 0 = λ r. IsOneOf r xs in subst P found.2 (one_at xs found.0 q found.1)

name_of_any : (q : List ℕ) (names : List (List ℕ)) → list_any (bytes_eq q) names ≡ true → IsIn q names
name_of_any q [] h = absurd (true≢false (sym h))
name_of_any q (x ∷ xs) h = elim (or_cases (bytes_eq q x) (list_any (bytes_eq q) xs) h) [
  | inl is ↦ inl ((bytes_eq-Decides q x).0 is)
  | inr more ↦ inr (name_of_any q xs more)
]

-- the test is true of just the names that another test is true of
pub any_is : (q : List ℕ) (names : List (List ℕ)) (b : Bool) → (IsIn q names → b ≡ true) → (b ≡ true → IsIn q names) → list_any (bytes_eq q) names ≡ b
any_is q names b there back = both_ways (list_any (bytes_eq q) names) b (λ h. there (name_of_any q names h)) (λ h. any_name q names (back h))
