-- Lists that are gone through element by element, and what was made of the elements so far.
use Rattle.std.proofs.Common.{◌≡◌, ℕ, zero, suc, ◌+◌, ◌<◌, ◌≤◌, List, [], ◌∷◌, ◌++◌, length, map, take, Some, refl, ap, sym, ◌∙◌, append_assoc, append-nil, arith}
use Rattle.std.specs.Prelude.{slice_get}
use Rattle.std.specs.List.{flat_map}
use Rattle.std.proofs.lemmas.Grind.{flat_map-append}
use Rattle.std.proofs.lemmas.List.{map-append, take_all}
use Rattle.adb_view.specs.Plain.{Plains}
use Rattle.adb_view.specs.Values.{count_of}
use Rattle.path_clashes.specs.adb_fields.Repeated.{list_of}
use Rattle.path_clashes.proofs.adb_fields.NameLists.{count-listed}

pub at_place : {X : Type 0} (xs : List X) (i : ℕ) → i < length xs → (x : X) × (slice_get xs i ≡ Some x)
at_place [] i h = absurd (omega arith)
at_place (x ∷ xs) zero h = (x, refl)
at_place (x ∷ xs) (suc i) h = at_place xs i (omega arith)

-- one element more
one_taken : {X : Type 0} (xs : List X) (i : ℕ) (x : X) → slice_get xs i ≡ Some x → take (i + 1) xs ≡ take i xs ++ x ∷ []
one_taken [] i x e = absurd (cc)
one_taken (y ∷ xs) zero x e = cc
one_taken (y ∷ xs) (suc i) x e =
    let next : suc i + 1 ≡ suc (i + 1) = omega arith in
    ap (λ n. take n (y ∷ xs)) next ∙ ap (λ zs. y ∷ zs) (one_taken xs i x e)

pub map_taken : {X Y : Type 0} (f : X → Y) (xs : List X) (i : ℕ) (x : X) → slice_get xs i ≡ Some x → map f (take (i + 1) xs) ≡ map f (take i xs) ++ f x ∷ []
map_taken f xs i x e = ap (map f) (one_taken xs i x e) ∙ map-append f (take i xs) (x ∷ [])

pub flat_taken : {X Y : Type 0} (f : X → List Y) (xs : List X) (i : ℕ) (x : X) → slice_get xs i ≡ Some x → flat_map f (take (i + 1) xs) ≡ flat_map f (take i xs) ++ f x
flat_taken f xs i x e =
    ap (flat_map f) (one_taken xs i x e)
    ∙ (flat_map-append f (take i xs) (x ∷ [])
    ∙ ap (λ ys. flat_map f (take i xs) ++ ys) (append-nil (f x)))

pub flat_map_taken : {X Y Z : Type 0} (f : Y → List Z) (g : X → Y) (xs : List X) (i : ℕ) (x : X) → slice_get xs i ≡ Some x
    → flat_map f (map g (take (i + 1) xs)) ≡ flat_map f (map g (take i xs)) ++ f (g x)
flat_map_taken f g xs i x e =
    ap (flat_map f) (map_taken g xs i x e)
    ∙ (flat_map-append f (map g (take i xs)) (g x ∷ [])
    ∙ ap (λ ys. flat_map f (map g (take i xs)) ++ ys) (append-nil (f (g x))))

pub flat_flat_taken : {X Y Z : Type 0} (f : Y → List Z) (g : X → List Y) (xs : List X) (i : ℕ) (x : X) → slice_get xs i ≡ Some x
    → flat_map f (flat_map g (take (i + 1) xs)) ≡ flat_map f (flat_map g (take i xs)) ++ flat_map f (g x)
flat_flat_taken f g xs i x e = ap (flat_map f) (flat_taken g xs i x e) ∙ flat_map-append f (flat_map g (take i xs)) (g x)

-- what is made of one element more is added
pub added_more : {X : Type 0} (old done new some before after : List X) → new ≡ done ++ some → done ≡ old ++ before → after ≡ before ++ some → new ≡ old ++ after
added_more old done new some before after is so_far more =
    is ∙ (ap (λ xs. xs ++ some) so_far ∙ (append_assoc old before some ∙ ap (λ xs. old ++ xs) (sym more)))

-- all elements are taken
pub all_taken : {X : Type 0} (xs : List X) (i : ℕ) → length xs ≤ i → take i xs ≡ xs
all_taken xs i l = take_all i xs l

-- ---- the values of an array

pub all_values_taken : (vs : Plains) (i : ℕ) → count_of vs ≤ i → take i (list_of vs) ≡ list_of vs
all_values_taken vs i l =
    let e : count_of vs ≡ length (list_of vs) = count-listed vs in
    take_all i (list_of vs) (omega (arith, e, l))
