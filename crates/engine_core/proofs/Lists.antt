-- Lists that grow element by element.
use Rattle.std.proofs.Common.{◌≡◌, ℕ, zero, suc, ◌+◌, ◌≤◌, List, [], ◌∷◌, ◌++◌, Some, refl, sym, ap, ◌∙◌, append_assoc, arith, length, map, take, take_all}
use Rattle.std.specs.Prelude.{slice_get}

pub take_next : {X : Type 0} (xs : List X) (i : ℕ) (x : X) → slice_get xs i ≡ Some x → take (i + 1) xs ≡ take i xs ++ x ∷ []
take_next [] i x e = cc
take_next (y ∷ xs) zero x e = cc
take_next (y ∷ xs) (suc i) x e =
    let next : suc i + 1 ≡ suc (i + 1) = omega arith in
    ap (λ (n : ℕ). take n (y ∷ xs)) next ∙ ap (λ l. y ∷ l) (take_next xs i x e)

pub map_more : {X Y : Type 0} (f : X → Y) (xs : List X) (y : X) → map f (xs ++ y ∷ []) ≡ map f xs ++ f y ∷ []
map_more f [] y = refl
map_more f (x ∷ xs) y = ap (λ l. f x ∷ l) (map_more f xs y)

pub map_both : {X Y : Type 0} (f : X → Y) (xs ys : List X) → map f (xs ++ ys) ≡ map f xs ++ map f ys
map_both f [] ys = refl
map_both f (x ∷ xs) ys = ap (λ l. f x ∷ l) (map_both f xs ys)

pub pushed : {X Y : Type 0} (f : X → Y) (base more : List Y) (i : ℕ) (names new : List X) (x : X) → new ≡ names ++ x ∷ [] → slice_get more i ≡ Some (f x) → map f names ≡ base ++ take i more
    → map f new ≡ base ++ take (i + 1) more
pushed f base more i names new x is at so_far =
    ap (map f) is ∙ map_more f names x ∙ ap (λ l. l ++ f x ∷ []) so_far ∙ append_assoc base (take i more) (f x ∷ []) ∙ ap (λ l. base ++ l) (sym (take_next more i (f x) at))

pub all_pushed : {X Y : Type 0} (f : X → Y) (base more : List Y) (i : ℕ) (names : List X) → length more ≤ i → map f names ≡ base ++ take i more → map f names ≡ base ++ more
all_pushed f base more i names past so_far = so_far ∙ ap (λ l. base ++ l) (take_all i more past)

pub copied : {X : Type 0} (f : X → List ℕ) (xs : List X) (i : ℕ) (x : X) (copies new : List (List ℕ)) (copy : List ℕ) → slice_get xs i ≡ Some x → new ≡ copies ++ copy ∷ [] → copy ≡ f x → copies ≡ map f (take i xs)
    → new ≡ map f (take (i + 1) xs)
copied f xs i x copies new copy at is same so_far =
    is ∙ ap (λ (c : List ℕ). copies ++ c ∷ []) same ∙ ap (λ (l : List (List ℕ)). l ++ f x ∷ []) so_far
    ∙ sym (ap (map f) (take_next xs i x at) ∙ map_more f (take i xs) x)

pub all_copied : {X : Type 0} (f : X → List ℕ) (xs : List X) (i : ℕ) (copies : List (List ℕ)) → length xs ≤ i → copies ≡ map f (take i xs) → copies ≡ map f xs
all_copied f xs i copies past so_far = so_far ∙ ap (map f) (take_all i xs past)
