-- Lists element by element.
use Rattle.std.proofs.Common.{◌≡◌, ℕ, suc, zero, ◌+◌, ◌<◌, ◌≤◌, Bool, true, false, cond, List, [], ◌∷◌, ◌++◌, drop, length, map, get_or, Some, refl, ap, sym, ◌∙◌, arith, append_assoc}
use Rattle.std.specs.Prelude.{◌&&◌, ◌||◌, slice_get, if◌then◌else◌}
use Rattle.std.specs.List.{filter, flat_map, list_any}
use Rattle.std.proofs.lemmas.List.{drop_all, length-map, map-append}

pub left_at : {X : Type 0} (xs : List X) (i : ℕ) (x : X) → slice_get xs i ≡ Some x → drop i xs ≡ x ∷ drop (i + 1) xs
left_at [] i x e = cc
left_at (y ∷ xs) zero x e = cc
left_at (y ∷ xs) (suc i) x e =
    let next : suc (i + 1) ≡ suc i + 1 = omega arith in left_at xs i x e ∙ ap (λ n. x ∷ drop n (y ∷ xs)) next

-- the same of what is made of each element
pub made_at : {X Y : Type 0} (f : X → Y) (xs : List X) (i : ℕ) (d : X) → i < length xs → drop i (map f xs) ≡ f (get_or xs i d) ∷ drop (i + 1) (map f xs)
made_at f [] i d l = absurd (omega arith)
made_at f (y ∷ xs) zero d l = refl
made_at f (y ∷ xs) (suc i) d l =
    let next : suc (i + 1) ≡ suc i + 1 = omega arith in
    made_at f xs i d (omega arith) ∙ ap (λ n. f (get_or xs i d) ∷ drop n (map f (y ∷ xs))) next

pub made_from : {X Y : Type 0} (f : X → Y) (xs : List X) (i : ℕ) (x : X) → slice_get xs i ≡ Some x → drop i (map f xs) ≡ f x ∷ drop (i + 1) (map f xs)
made_from f [] i x e = cc
made_from f (y ∷ xs) zero x e = let is : y ≡ x = cc in ap (λ z. f z ∷ map f xs) is
made_from f (y ∷ xs) (suc i) x e =
    let next : suc (i + 1) ≡ suc i + 1 = omega arith in
    made_from f xs i x e ∙ ap (λ n. f x ∷ drop n (map f (y ∷ xs))) next

pub get_mapped : {X Y : Type 0} (f : X → Y) (xs : List X) (i : ℕ) (x : X) → slice_get xs i ≡ Some x → slice_get (map f xs) i ≡ Some (f x)
get_mapped f [] i x e = cc
get_mapped f (y ∷ xs) zero x e = let is : y ≡ x = cc in ap (λ z. Some (f z)) is
get_mapped f (y ∷ xs) (suc i) x e = get_mapped f xs i x e

pub made_none : {X Y : Type 0} (f : X → Y) (xs : List X) (i : ℕ) → length xs ≤ i → drop i (map f xs) ≡ []
made_none f xs i past = let long : length (map f xs) ≡ length xs = length-map xs f in drop_all i (map f xs) (omega arith)

-- ---- what is still to come

-- some elements more, and as many less to come
pub told : {Y : Type 0} (done new some before after all : List Y) → new ≡ done ++ some → before ≡ some ++ after → done ++ before ≡ all → new ++ after ≡ all
told done new some before after all is left inv =
    ap (λ z. z ++ after) is ∙ (append_assoc done some after ∙ (ap (λ z. done ++ z) (sym left) ∙ inv))

append_nothing : {Y : Type 0} (xs : List Y) → xs ++ [] ≡ xs
append_nothing [] = refl
append_nothing (x ∷ xs) = ap (λ z. x ∷ z) (append_nothing xs)

-- nothing is to come
pub all_told : {Y : Type 0} (done before all : List Y) → before ≡ [] → done ++ before ≡ all → done ≡ all
all_told done before all empty inv = sym (append_nothing done) ∙ (ap (λ z. done ++ z) (sym empty) ∙ inv)

-- one more element, and one less to come
pub pushed : {X Y : Type 0} (f : X → Y) (done new : List X) (x : X) (before after all : List Y) → new ≡ done ++ x ∷ [] → before ≡ f x ∷ after → map f done ++ before ≡ all → map f new ++ after ≡ all
pushed f done new x before after all is left inv =
    told (map f done) (map f new) (f x ∷ []) before after all
    (ap (map f) is ∙ map-append f done (x ∷ [])) left inv

-- ---- whether an element passes a test

pub any_here : {X : Type 0} (p : X → Bool) (xs : List X) (i : ℕ) (x : X) (t : Bool) → drop i xs ≡ x ∷ drop (i + 1) xs → t ≡ p x → t ≡ true → list_any p (drop i xs) ≡ list_any p xs → true ≡ list_any p xs
any_here p xs i x t at is e inv =
    ap (λ b. b || list_any p (drop (i + 1) xs)) (sym e ∙ is) ∙ (ap (list_any p) (sym at) ∙ inv)

pub any_later : {X : Type 0} (p : X → Bool) (xs : List X) (i : ℕ) (x : X) (t : Bool) → drop i xs ≡ x ∷ drop (i + 1) xs → t ≡ p x → t ≡ false → list_any p (drop i xs) ≡ list_any p xs → list_any p (drop (i + 1) xs) ≡ list_any p xs
any_later p xs i x t at is e inv =
    ap (λ b. b || list_any p (drop (i + 1) xs)) (sym e ∙ is) ∙ (ap (list_any p) (sym at) ∙ inv)

pub any_none : {X : Type 0} (p : X → Bool) (xs : List X) (i : ℕ) → length xs ≤ i → list_any p (drop i xs) ≡ list_any p xs → false ≡ list_any p xs
any_none p xs i past inv = ap (list_any p) (sym (drop_all i xs past)) ∙ inv

pub any_mapped : {X Y : Type 0} (f : Y → Bool) (g : X → Y) (xs : List X) → list_any (λ x. f (g x)) xs ≡ list_any f (map g xs)
any_mapped f g [] = refl
any_mapped f g (x ∷ xs) = ap (λ t. f (g x) || t) (any_mapped f g xs)

-- where one test fails the other does not matter
pub none_passes : {X : Type 0} (t : Bool) (q : X → Bool) (xs : List X) → t ≡ false → false ≡ list_any (λ x. t && q x) xs
none_passes t q [] e = refl
none_passes t q (x ∷ xs) e =
    none_passes t q xs e ∙ ap (λ s. (s && q x) || list_any (λ x. t && q x) xs) (sym e)

pub none_kept : {X : Type 0} (t : Bool) (q : X → Bool) (xs : List X) → t ≡ false → filter (λ x. t && q x) xs ≡ []
none_kept t q [] e = refl
none_kept t q (x ∷ xs) e =
    ap (λ s. cond (s && q x) (x ∷ filter (λ x. t && q x) xs) (filter (λ x. t && q x) xs)) e ∙ none_kept t q xs e

-- ---- the lines of elements that pass a test

pub lines_here : {X : Type 0} (f : X → List ℕ) (p : X → Bool) (x : X) (xs : List X) → flat_map f (filter p (x ∷ xs)) ≡ (if p x then f x else []) ++ flat_map f (filter p xs)
lines_here f p x xs = go (p x)
  where
    go : (t : Bool) → flat_map f (cond t (x ∷ filter p xs) (filter p xs)) ≡ (if t then f x else []) ++ flat_map f (filter p xs)
    go true = refl
    go false = refl

-- the same, where one test passes
pub lines_where : {X : Type 0} (f : X → List ℕ) (t : Bool) (q : X → Bool) (x : X) (xs : List X) → t ≡ true → flat_map f (filter (λ y. t && q y) (x ∷ xs)) ≡ (if q x then f x else []) ++ flat_map f (filter (λ y. t && q y) xs)
lines_where f t q x xs e =
    lines_here f (λ y. t && q y) x xs
    ∙ ap (λ s. (if s && q x then f x else []) ++ flat_map f (filter (λ y. t && q y) xs)) e

-- nor any line, where it fails
pub no_lines : {X : Type 0} (f : X → List ℕ) (t : Bool) (q : X → Bool) (xs : List X) (done : List ℕ) → t ≡ false → done ≡ done ++ flat_map f (filter (λ y. t && q y) xs)
no_lines f t q xs done e = sym (ap (λ z. done ++ flat_map f z) (none_kept t q xs e) ∙ append_nothing done)

-- ---- the element at a place

pub record IsAt {X : Type 0} (xs : List X) (i : ℕ) : Type 0 where
  pub item : X
  pub is : slice_get xs i ≡ Some item

pub placed_at : {X : Type 0} (xs : List X) (i : ℕ) → i < length xs → IsAt xs i
placed_at [] i l = absurd (omega arith)
placed_at (x ∷ xs) zero l = record { item = x; is = refl }
placed_at (x ∷ xs) (suc i) l = let further = placed_at xs i (omega arith) in record { item = further.item; is = further.is }
