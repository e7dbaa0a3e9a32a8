-- The last element of a list, changed where it stands.
use Rattle.std.proofs.Common.{◌≡◌, ℕ, zero, suc, ◌-◌, ◌<◌, Bool, true, false, cond, List, [], ◌∷◌, length, Option, Some, None, refl, sym, ◌∙◌, ap, arith}
use Rattle.std.specs.Prelude.{slice_index_or, slice_set}
use Rattle.std.specs.Option.{option_map}
use Rattle.v2_core.specs.Records.{list_with_last_changed}

pub last_changed : {A : Type 0} (change : A → Option A) (xs : List A) (i : ℕ) (x y d : A) → suc i ≡ length xs → x ≡ slice_index_or xs i d → change x ≡ Some y → list_with_last_changed change xs ≡ Some (slice_set xs i y)
last_changed change [] i x y d h is c = absurd (omega (arith, h))
last_changed change (w ∷ []) zero x y d h is c = ap (option_map (λ z. z ∷ [])) (ap change (sym is) ∙ c)
last_changed change (w ∷ []) (suc i) x y d h is c = absurd (omega (arith, h))
last_changed change (w ∷ v ∷ vs) zero x y d h is c = absurd (omega (arith, h))
last_changed change (w ∷ v ∷ vs) (suc i) x y d h is c =
    ap (option_map (λ rest. w ∷ rest)) (last_changed change (v ∷ vs) i x y d (omega (arith, h)) is c)

pub last_kept : {A : Type 0} (change : A → Option A) (xs : List A) (i : ℕ) (x d : A) → suc i ≡ length xs → x ≡ slice_index_or xs i d → change x ≡ None → list_with_last_changed change xs ≡ None
last_kept change [] i x d h is c = absurd (omega (arith, h))
last_kept change (w ∷ []) zero x d h is c = ap (option_map (λ z. z ∷ [])) (ap change (sym is) ∙ c)
last_kept change (w ∷ []) (suc i) x d h is c = absurd (omega (arith, h))
last_kept change (w ∷ v ∷ vs) zero x d h is c = absurd (omega (arith, h))
last_kept change (w ∷ v ∷ vs) (suc i) x d h is c =
    ap (option_map (λ rest. w ∷ rest)) (last_kept change (v ∷ vs) i x d (omega (arith, h)) is c)

-- no element, no change
pub no_last : {A : Type 0} (change : A → Option A) (xs : List A) → length xs ≡ 0 → None ≡ list_with_last_changed change xs
no_last change [] h = refl
no_last change (x ∷ xs) h = absurd (omega (arith, h))

-- the last element was changed, or may not be
pub last_by : {A : Type 0} (change : A → Option A) (xs ys : List A) (n : ℕ) (b : Bool) (x y d : A) → n ≡ length xs → 0 < n → x ≡ slice_index_or xs (n - 1) d → cond b (Some y) None ≡ change x → ys ≡ slice_set xs (n - 1) y → cond b (Some ys) None ≡ list_with_last_changed change xs
last_by change xs ys n true x y d h l is c new =
    let last : suc (n - 1) ≡ length xs = omega (arith, h, l) in
    ap Some new ∙ sym (last_changed change xs (n - 1) x y d last is (sym c))
last_by change xs ys n false x y d h l is c new =
    let last : suc (n - 1) ≡ length xs = omega (arith, h, l) in
    sym (last_kept change xs (n - 1) x d last is (sym c))

-- what is made of a value, if there is one
pub made_of : {A B : Type 0} (f : A → B) (b : Bool) (x : A) (o : Option A) → cond b (Some x) None ≡ o → cond b (Some (f x)) None ≡ option_map f o
made_of f true x o h = ap (option_map f) h
made_of f false x o h = ap (option_map f) h
