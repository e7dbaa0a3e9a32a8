-- Lists, element by element.
use Rattle.std.proofs.Common.{◌≡◌, ℕ, zero, suc, List, [], ◌∷◌, ◌++◌, All, Contains, Some, map, ap, subst, arith}
use Rattle.std.specs.Prelude.{slice_get}
use Rattle.std.proofs.lemmas.Option.{same_Some}
use Rattle.base_core.proofs.Sorting.{Each}

pub each_all : {X : Type 0} (P : X → Type 0) (xs : List X) → Each P xs → All P xs
each_all P [] each k d less = absurd (omega (arith, less))
each_all P (x ∷ xs) each zero d less = each.0
each_all P (x ∷ xs) each (suc k) d less = each_all P xs each.1 k d (omega (arith, less))

pub all_at : {X : Type 0} (P : X → Type 0) (xs : List X) (i : ℕ) (x : X) → All P xs → slice_get xs i ≡ Some x → P x
all_at P [] i x all at = absurd (cc (at))
all_at P (y ∷ ys) zero x all at = subst P (same_Some y x at) (all zero y (omega arith))
all_at P (y ∷ ys) (suc i) x all at = all_at P ys i x (λ k d less. all (suc k) d (omega (arith, less))) at

pub contains_at : {X : Type 0} (xs : List X) (i : ℕ) (x : X) → slice_get xs i ≡ Some x → Contains xs x
contains_at [] i x at = absurd (cc (at))
contains_at (y ∷ ys) zero x at = (0, omega arith, same_Some y x at)
contains_at (y ∷ ys) (suc i) x at = let (k, less, is) = contains_at ys i x at in (suc k, omega (arith, less), is)

pub each_weaker : {X : Type 0} (P Q : X → Type 0) → ((x : X) → P x → Q x) → (xs : List X) → Each P xs → Each Q xs
each_weaker P Q f [] each = tt
each_weaker P Q f (x ∷ xs) each = (f x each.0, each_weaker P Q f xs each.1)

pub each_both : {X : Type 0} (P : X → Type 0) (xs ys : List X) → Each P xs → Each P ys → Each P (xs ++ ys)
each_both P [] ys one two = two
each_both P (x ∷ xs) ys one two = (one.0, each_both P xs ys one.1 two)

pub all_each : {X : Type 0} (P : X → Type 0) (xs : List X) → All P xs → Each P xs
all_each P [] all = tt
all_each P (x ∷ xs) all = (all zero x (omega arith), all_each P xs (λ k d less. all (suc k) d (omega (arith, less))))

pub mapped_at : {X Y : Type 0} (f : X → Y) (xs : List X) (i : ℕ) (x : X) → slice_get xs i ≡ Some x → slice_get (map f xs) i ≡ Some (f x)
mapped_at f [] i x at = absurd (cc (at))
mapped_at f (y ∷ ys) zero x at = ap (λ z. Some (f z)) (same_Some y x at)
mapped_at f (y ∷ ys) (suc i) x at = mapped_at f ys i x at
