-- Whether one of the first of a list passes a test, as a loop over the list goes on.
use Rattle.std.proofs.Common.{◌≡◌, ℕ, suc, zero, ◌+◌, ◌<◌, Bool, true, false, List, [], ◌∷◌, All, length, get_or, take, Some, refl, ap, sym, ◌∙◌, subst, arith, true≢false}
use Rattle.std.specs.Prelude.{◌||◌, slice_get}
use Rattle.std.specs.List.{list_any}
use Rattle.std.proofs.Math.Bool.{or-true, or-false, or_assoc}

-- ---- members by their places

pub some_at : {X : Type 0} (xs : List X) (i : ℕ) → i < length xs → (x : X) × (slice_get xs i ≡ Some x)
some_at [] i l = absurd (omega (arith, l))
some_at (x ∷ xs) zero l = (x, refl)
some_at (x ∷ xs) (suc i) l = some_at xs i (omega (arith, l))

pub read_at : {X : Type 0} (xs : List X) (i : ℕ) (v : X) → i < length xs → v ≡ get_or xs i v → slice_get xs i ≡ Some v
read_at [] i v l e = absurd (omega (arith, l))
read_at (x ∷ xs) zero v l e = ap Some (sym e)
read_at (x ∷ xs) (suc i) v l e = read_at xs i v (omega (arith, l)) e

pub all_at : {X : Type 0} (P : X → Type 0) (xs : List X) (i : ℕ) (x : X) → All P xs → slice_get xs i ≡ Some x → P x
all_at P [] zero x all h = absurd (cc)
all_at P [] (suc i) x all h = absurd (cc)
all_at {X} P (y ∷ xs) zero x all h = let s : y ≡ x = cc in subst P s (all 0 y (omega arith))
all_at P (y ∷ xs) (suc i) x all h = all_at P xs i x (λ k d low. all (suc k) d (omega (arith, low))) h

-- ---- the first of a list

more_than : {X : Type 0} (p : X → Bool) (xs : List X) (i : ℕ) (x : X) → slice_get xs i ≡ Some x → list_any p (take (suc i) xs) ≡ (list_any p (take i xs) || p x)
more_than p [] zero x h = absurd (cc)
more_than p [] (suc i) x h = absurd (cc)
more_than {X} p (y ∷ xs) zero x h = let s : y ≡ x = cc in or-false (p y) ∙ ap p s
more_than p (y ∷ xs) (suc i) x h = ap (λ b. p y || b) (more_than p xs i x h) ∙ sym (or_assoc (p y) (list_any p (take i xs)) (p x))

pub one_more : {X : Type 0} (p : X → Bool) (xs : List X) (i : ℕ) (x : X) → slice_get xs i ≡ Some x → list_any p (take (i + 1) xs) ≡ (list_any p (take i xs) || p x)
one_more p xs i x h =
    let s : i + 1 ≡ suc i = omega arith in
    ap (λ k. list_any p (take k xs)) s ∙ more_than p xs i x h

pub passed_in_front : {X : Type 0} (p : X → Bool) (xs : List X) (i j : ℕ) (x : X) → j < i → slice_get xs j ≡ Some x → p x ≡ true → list_any p (take i xs) ≡ true
passed_in_front p xs zero j x l h e = absurd (omega (arith, l))
passed_in_front p [] (suc i) zero x l h e = absurd (cc)
passed_in_front p [] (suc i) (suc j) x l h e = absurd (cc)
passed_in_front {X} p (y ∷ xs) (suc i) zero x l h e = let s : y ≡ x = cc in ap (λ b. b || list_any p (take i xs)) (ap p s ∙ e)
passed_in_front p (y ∷ xs) (suc i) (suc j) x l h e = ap (λ b. p y || b) (passed_in_front p xs i j x (omega (arith, l)) h e) ∙ or-true (p y)

-- an answer that comes once more changes nothing
pub settled : (front answer : Bool) → (answer ≡ true → front ≡ true) → (front || false) ≡ (front || answer)
settled true answer h = refl
settled false true h = absurd (true≢false (sym (h refl)))
settled false false h = refl
