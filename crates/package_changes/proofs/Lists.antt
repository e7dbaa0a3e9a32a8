-- Lists element by element.
use Rattle.std.proofs.Common.{◌≡◌, ℕ, zero, suc, ◌+◌, ◌<◌, ◌≤◌, get_or, List, [], ◌∷◌, ◌++◌, map, length, drop, Option, Some, None, Bor, refl, sym, ◌∙◌, ap, arith, append_assoc}
use Rattle.std.specs.Prelude.{option_to_list}
use Rattle.std.specs.List.{cons_option, filter_map, slice_get}
use Rattle.std.proofs.lemmas.List.{drop_all, map-append}

-- what is left of a list where an element stands
pub left_at : {X : Type 0} (xs : List X) (i : ℕ) (x : X) → slice_get xs i ≡ Some x → drop i xs ≡ x ∷ drop (i + 1) xs
left_at [] i x e = cc
left_at (y ∷ xs) zero x e = cc
left_at (y ∷ xs) (suc i) x e =
    let next : suc (i + 1) ≡ suc i + 1 = omega arith in left_at xs i x e ∙ ap (λ n. x ∷ drop n (y ∷ xs)) next

-- one more element, and one less to come
pub pushed : {X Y : Type 0} (f : X → Y) (done new : List X) (x : X) (before after all : List Y) → new ≡ done ++ x ∷ [] → before ≡ f x ∷ after → map f done ++ before ≡ all → map f new ++ after ≡ all
pushed f done new x before after all is left inv =
    ap (λ z. map f z ++ after) is
    ∙ (ap (λ z. z ++ after) (map-append f done (x ∷ []))
    ∙ (append_assoc (map f done) (f x ∷ []) after
    ∙ (ap (λ z. map f done ++ z) (sym left) ∙ inv)))

-- some elements more, and as many less to come
pub told : {Y : Type 0} (done new some before after all : List Y) → new ≡ done ++ some → before ≡ some ++ after → done ++ before ≡ all → new ++ after ≡ all
told done new some before after all is left inv =
    ap (λ z. z ++ after) is ∙ (append_assoc done some after ∙ (ap (λ z. done ++ z) (sym left) ∙ inv))

pub append_nothing : {Y : Type 0} (xs : List Y) → xs ++ [] ≡ xs
append_nothing [] = refl
append_nothing (x ∷ xs) = ap (λ z. x ∷ z) (append_nothing xs)

-- nothing is to come
pub all_told : {Y : Type 0} (done before all : List Y) → before ≡ [] → done ++ before ≡ all → done ≡ all
all_told done before all none inv = sym (append_nothing done) ∙ (ap (λ z. done ++ z) (sym none) ∙ inv)

pub none_left : {X Y : Type 0} (g : X → Y) (xs : List X) (i : ℕ) → length xs ≤ i → map g (drop i xs) ≡ []
none_left g xs i past = ap (map g) (drop_all i xs past)

pub option_in_front : {X : Type 0} (o : Option X) (xs : List X) → cons_option o xs ≡ option_to_list o ++ xs
option_in_front None xs = refl
option_in_front (Some x) xs = refl

pub option_mapped : {X Y : Type 0} (f : X → Y) (o : Option X) (xs : List X) → map f (cons_option o xs) ≡ map f (option_to_list o) ++ map f xs
option_mapped f None xs = refl
option_mapped f (Some x) xs = refl

-- what is left of a list within it
pub item_at : {X : Type 0} (xs : List X) (i : ℕ) (d : X) → i < length xs → drop i xs ≡ get_or xs i d ∷ drop (i + 1) xs
item_at [] i d l = absurd (omega arith)
item_at (y ∷ xs) zero d l = refl
item_at (y ∷ xs) (suc i) d l =
    let next : suc (i + 1) ≡ suc i + 1 = omega arith in
    item_at xs i d (omega arith) ∙ ap (λ n. get_or xs i d ∷ drop n (y ∷ xs)) next

-- ---- what is made of each name

pub made_here : {X : Type 0} (f : List ℕ → Option X) (names : List (Bor (List ℕ))) (i : ℕ) (d : Bor (List ℕ)) → i < length names → filter_map f (map (λ n. n.now) (drop i names)) ≡ option_to_list (f (get_or names i d).now) ++ filter_map f (map (λ n. n.now) (drop (i + 1) names))
made_here f names i d l =
    ap (λ z. filter_map f (map (λ n. n.now) z)) (item_at names i d l)
    ∙ option_in_front (f (get_or names i d).now) (filter_map f (map (λ n. n.now) (drop (i + 1) names)))
