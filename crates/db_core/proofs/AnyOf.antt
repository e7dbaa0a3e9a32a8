-- Whether one of an array's values passes, from a place on.
use Rattle.std.proofs.Common.{◌≡◌, ℕ, suc, zero, ◌+◌, ◌<◌, ◌≤◌, Bool, true, false, List, [], ◌∷◌, ◌++◌, map, drop, refl, ap, sym, ◌∙◌, arith}
use Rattle.std.specs.Prelude.{◌||◌}
use Rattle.std.specs.List.{flat_map, list_any}
use Rattle.adb_view.specs.Plain.{Plain, Plains, none, more}
use Rattle.adb_view.specs.Values.{nth, count_of}
use Rattle.pkg_core.specs.adb_fields.Repeated.{list_of}

pub nothing : (n : ℕ) → drop {A = Plain} n [] ≡ []
nothing zero = refl
nothing (suc n) = refl

pub any_step : (p : Plain → Bool) (vs : Plains) (i : ℕ) → i < count_of vs → list_any p (drop i (list_of vs)) ≡ (p (nth vs i) || list_any p (drop (suc i) (list_of vs)))
any_step p none i h = absurd (omega arith)
any_step p (more v vs) zero h = refl
any_step p (more v vs) (suc i) h = any_step p vs i (omega arith)

pub past_end : (p : Plain → Bool) (vs : Plains) (i : ℕ) → count_of vs ≤ i → list_any p (drop i (list_of vs)) ≡ false
past_end p none i h = ap (list_any p) (nothing i)
past_end p (more v vs) zero h = absurd (omega arith)
past_end p (more v vs) (suc i) h = past_end p vs i (omega arith)

-- none in front of a place passes: the rest decides
abbrev pub IsRest : (Plain → Bool) → Plains → ℕ → Type 0
IsRest p vs i = list_any p (drop i (list_of vs)) ≡ list_any p (list_of vs)

pub any_found : (p : Plain → Bool) (vs : Plains) (i : ℕ) (t : Bool) → i < count_of vs → t ≡ p (nth vs i) → t ≡ true → IsRest p vs i → true ≡ list_any p (list_of vs)
any_found p vs i t h is e inv =
    sym (ap (λ b. b || list_any p (drop (suc i) (list_of vs))) (sym is ∙ e)) ∙ (sym (any_step p vs i h) ∙ inv)

pub any_next : (p : Plain → Bool) (vs : Plains) (i : ℕ) (t : Bool) → i < count_of vs → t ≡ p (nth vs i) → t ≡ false → IsRest p vs i → IsRest p vs (i + 1)
any_next p vs i t h is e inv =
    let n : i + 1 ≡ suc i = omega arith in
    ap (λ k. list_any p (drop k (list_of vs))) n
    ∙ (sym (ap (λ b. b || list_any p (drop (suc i) (list_of vs))) (sym is ∙ e)) ∙ (sym (any_step p vs i h) ∙ inv))

pub any_none : (p : Plain → Bool) (vs : Plains) (i : ℕ) → count_of vs ≤ i → IsRest p vs i → false ≡ list_any p (list_of vs)
any_none p vs i h inv = sym (past_end p vs i h) ∙ inv

-- ---- of lists that are joined, and of what is made of values

any_joined : {X : Type 0} (p : X → Bool) (xs ys : List X) → list_any p (xs ++ ys) ≡ (list_any p xs || list_any p ys)
any_joined p [] ys = refl
any_joined p (x ∷ xs) ys = ap (λ b. p x || b) (any_joined p xs ys) ∙ go (p x) (list_any p xs) (list_any p ys)
  where
    go : (a b c : Bool) → (a || (b || c)) ≡ ((a || b) || c)
    go true b c = refl
    go false b c = refl

pub any_flat : {X Y : Type 0} (p : Y → Bool) (f : X → List Y) (xs : List X) → list_any p (flat_map f xs) ≡ list_any (λ x. list_any p (f x)) xs
any_flat p f [] = refl
any_flat p f (x ∷ xs) = any_joined p (f x) (flat_map f xs) ∙ ap (λ b. list_any p (f x) || b) (any_flat p f xs)

pub any_map : {X Y : Type 0} (p : Y → Bool) (f : X → Y) (xs : List X) → list_any p (map f xs) ≡ list_any (λ x. p (f x)) xs
any_map p f [] = refl
any_map p f (x ∷ xs) = ap (λ b. p (f x) || b) (any_map p f xs)
