-- Elements of lists that are seen as others.
use Rattle.std.proofs.Common.{◌≡◌, ℕ, zero, suc, ◌+◌, Bool, true, false, cond, List, [], ◌∷◌, map, drop, Option, Some, None, refl, ◌∙◌, ap, subst, arith}
use Rattle.std.specs.List.{find, list_any, slice_get}
use Rattle.std.specs.Option.{option_map}
use Rattle.std.specs.Prelude.{◌||◌}
use Rattle.std.proofs.lemmas.Option.{none-some, same_Some}

pub list_any-map : {A B : Type 0} (p : B → Bool) (f : A → B) (xs : List A) → list_any p (map f xs) ≡ list_any (λ x. p (f x)) xs
list_any-map p f [] = refl
list_any-map p f (x ∷ xs) = ap (λ b. p (f x) || b) (list_any-map p f xs)

pub find-map : {A B : Type 0} (p : B → Bool) (f : A → B) (xs : List A) → find p (map f xs) ≡ option_map f (find (λ x. p (f x)) xs)
find-map p f [] = refl
find-map p f (x ∷ xs) =
    elim (p (f x)) as (λ b. cond b (Some (f x)) (find p (map f xs)) ≡ option_map f (cond b (Some x) (find (λ y. p (f y)) xs))) [
      | true ↦ refl
      | false ↦ find-map p f xs
    ]

pub option_map-twice : {A B C : Type 0} (f : B → C) (g : A → B) (o : Option A) → option_map (λ x. f (g x)) o ≡ option_map f (option_map g o)
option_map-twice f g None = refl
option_map-twice f g (Some x) = refl

-- what is found passes the test
pub found_passes : {A : Type 0} (p : A → Bool) (xs : List A) (x : A) → find p xs ≡ Some x → p x ≡ true
found_passes p [] x e = absurd (none-some x e)
found_passes p (y ∷ ys) x e =
    elim (p y) as (λ b. p y ≡ b → cond b (Some y) (find p ys) ≡ Some x → p x ≡ true) [
      | true ↦ λ is (same : Some y ≡ Some x). subst (λ z. p z ≡ true) (same_Some y x same) is
      | false ↦ λ is (later : find p ys ≡ Some x). found_passes p ys x later
    ] refl e

-- two views of a list agree at each element
pub agree_found : {A B : Type 0} (f g : A → B) (p : A → Bool) (xs : List A) (x : A) → map f xs ≡ map g xs → find p xs ≡ Some x → f x ≡ g x
agree_found f g p [] x a e = absurd (none-some x e)
agree_found f g p (y ∷ ys) x a e =
    let here : f y ≡ g y = cc in
    let rest : map f ys ≡ map g ys = cc in
    elim (p y) as (λ b. cond b (Some y) (find p ys) ≡ Some x → f x ≡ g x) [
      | true ↦ λ (same : Some y ≡ Some x). subst (λ z. f z ≡ g z) (same_Some y x same) here
      | false ↦ λ (later : find p ys ≡ Some x). agree_found f g p ys x rest later
    ] e

pub agree_at : {A B : Type 0} (f g : A → B) (xs : List A) (i : ℕ) (x : A) → map f xs ≡ map g xs → slice_get xs i ≡ Some x → f x ≡ g x
agree_at f g [] i x a e = cc
agree_at f g (y ∷ ys) zero x a e = (let same : y ≡ x = cc in let here : f y ≡ g y = cc in subst (λ z. f z ≡ g z) same here)
agree_at f g (y ∷ ys) (suc i) x a e = (let rest : map f ys ≡ map g ys = cc in agree_at f g ys i x rest e)

-- what is left of a list where an element stands
pub left_at : {X : Type 0} (xs : List X) (i : ℕ) (x : X) → slice_get xs i ≡ Some x → drop i xs ≡ x ∷ drop (i + 1) xs
left_at [] i x e = cc
left_at (y ∷ xs) zero x e = cc
left_at (y ∷ xs) (suc i) x e =
    let next : suc (i + 1) ≡ suc i + 1 = omega arith in left_at xs i x e ∙ ap (λ n. x ∷ drop n (y ∷ xs)) next
