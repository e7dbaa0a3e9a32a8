-- In a list in order, elements that tie stand together.
use Rattle.std.proofs.Common.{◌≡◌, ℕ, suc, zero, Bool, true, false, cond, List, [], ◌∷◌, drop, take, Some, refl, ap, sym, ◌∙◌, subst, true≢false}
use Rattle.std.specs.Prelude.{not, ◌&&◌, slice_get}
use Rattle.std.specs.Cmp.{IsStrictWeakOrder}
use Rattle.std.specs.List.{filter}
use Rattle.std.specs.List.Sorted.{ties}
use Rattle.base_core.proofs.Sorting.{Each, Rises}
use Rattle.path_claims.specs.Runs.{passing_prefix}
use Rattle.path_claims.proofs.Places.{no_some, value_or}

-- ---- tests that agree

pub filter_ext : {X : Type 0} (p q : X → Bool) → ((x : X) → p x ≡ q x) → (xs : List X) → filter p xs ≡ filter q xs
filter_ext p q h [] = refl
filter_ext p q h (x ∷ xs) = λ j. cond (h x j) (x ∷ filter_ext p q h xs j) (filter_ext p q h xs j)

pub run_ext : {X : Type 0} (p q : X → Bool) → ((x : X) → p x ≡ q x) → (xs : List X) → passing_prefix p xs ≡ passing_prefix q xs
run_ext p q h [] = refl
run_ext p q h (x ∷ xs) = λ j. cond (h x j) (x ∷ run_ext p q h xs j) []

-- what does not pass in front may be dropped
pub filter_skip : {X : Type 0} (p : X → Bool) (i : ℕ) (xs : List X) → Each (λ x. p x ≡ false) (take i xs) → filter p xs ≡ filter p (drop i xs)
filter_skip p zero xs h = refl
filter_skip p (suc i) [] h = refl
filter_skip p (suc i) (x ∷ xs) h = ap (λ b. cond b (x ∷ filter p xs) (filter p xs)) h.0 ∙ filter_skip p i xs h.1

each_drop : {X : Type 0} (P : X → Type 0) (i : ℕ) (xs : List X) → Each P xs → Each P (drop i xs)
each_drop P zero xs h = h
each_drop P (suc i) [] h = h
each_drop P (suc i) (x ∷ xs) h = each_drop P i xs h.1

each_to : {X : Type 0} (P Q : X → Type 0) → ((x : X) → P x → Q x) → (xs : List X) → Each P xs → Each Q xs
each_to P Q f [] h = tt
each_to P Q f (x ∷ xs) h = (f x h.0, each_to P Q f xs h.1)

filter_none : {X : Type 0} (p : X → Bool) (xs : List X) → Each (λ x. p x ≡ false) xs → filter p xs ≡ []
filter_none p [] h = refl
filter_none p (x ∷ xs) h = ap (λ b. cond b (x ∷ filter p xs) (filter p xs)) h.0 ∙ filter_none p xs h.1

and_false : (a b : Bool) → a ≡ true → (not a && b) ≡ false
and_false a b e = ap (λ x. not x && b) e

false_and : (a b : Bool) → b ≡ true → (a && not b) ≡ false
false_and true b e = ap (λ x. not x) e
false_and false b e = refl

module _ {X : Type 0} (lt : X → X → Bool) (o : IsStrictWeakOrder lt) where
  rises_drop : (i : ℕ) (xs : List X) → Rises lt o xs → Rises lt o (drop i xs)
  rises_drop zero xs h = h
  rises_drop (suc i) [] h = h
  rises_drop (suc i) (x ∷ xs) h = rises_drop i xs h.1

  not_itself : (x : X) → lt x x ≡ false
  not_itself x = go (lt x x) (o.one_way x x)
    where
      go : (b : Bool) → (b ≡ true → b ≡ false) → b ≡ false
      go true f = f refl
      go false f = refl

  -- apart and not above is below
  below : (y z : X) → lt z y ≡ false → ties lt z y ≡ false → lt y z ≡ true
  below y z h t = go (lt y z) (sym (ap (λ b. not b && not (lt y z)) h) ∙ t)
    where
      go : (b : Bool) → not b ≡ false → b ≡ true
      go true e = refl
      go false e = absurd (true≢false e)

  -- below what is not above
  below_all : (x y z : X) → lt y x ≡ false → lt y z ≡ true → lt x z ≡ true
  below_all x y z h l = go (lt x z) refl
    where
      go : (b : Bool) → lt x z ≡ b → b ≡ true
      go true e = refl
      go false e = absurd (true≢false (sym l ∙ o.chain y x z h e))

  above_all : (z y w : X) → lt z y ≡ true → lt w y ≡ false → lt z w ≡ true
  above_all z y w l h = go (lt z w) refl
    where
      go : (b : Bool) → lt z w ≡ b → b ≡ true
      go true e = refl
      go false e = absurd (true≢false (sym l ∙ o.chain z w y e h))

  apart_below : (z y : X) → lt y z ≡ true → ties lt z y ≡ false
  apart_below z y l = false_and (not (lt z y)) (lt y z) l

  apart_above : (z y : X) → lt z y ≡ true → ties lt z y ≡ false
  apart_above z y l = and_false (lt z y) (not (lt y z)) l

  -- all that stands before the first of a run is below it
  pub front_below : (xs : List X) → Rises lt o xs → (i : ℕ) (z : X) → slice_get xs i ≡ Some z
      → ((j : ℕ) (y : X) → suc j ≡ i → slice_get xs j ≡ Some y → ties lt z y ≡ false)
      → Each (λ y. lt y z ≡ true) (take i xs)
  front_below xs up zero z g s = tt
  front_below [] up (suc i) z g s = tt
  front_below (x ∷ []) up (suc zero) z g s = absurd (no_some z g)
  front_below (x ∷ y ∷ ys) up (suc zero) z g s =
      let is : y ≡ z = ap (value_or y) g in
      (below x z (subst (λ v. lt v x ≡ false) is up.0.0) (s zero x refl refl), tt)
  front_below (x ∷ []) up (suc (suc i)) z g s = absurd (no_some z g)
  front_below (x ∷ y ∷ ys) up (suc (suc i)) z g s =
      let rest = front_below (y ∷ ys) up.1 (suc i) z g (λ j v e h. s (suc j) v (ap suc e) h) in
      (below_all x y z up.0.0 rest.0, rest)

  -- from its first element on, a run is all that ties
  front_run : (z : X) (xs : List X) → Rises lt o xs → Each (λ y. lt y z ≡ false) xs → filter (ties lt z) xs ≡ passing_prefix (ties lt z) xs
  front_run z [] up h = refl
  front_run z (x ∷ xs) up h = go (front_run z xs up.1 h.1) (ties lt z x) refl
    where
      go : filter (ties lt z) xs ≡ passing_prefix (ties lt z) xs → (b : Bool) → ties lt z x ≡ b → cond b (x ∷ filter (ties lt z) xs) (filter (ties lt z) xs) ≡ cond b (x ∷ passing_prefix (ties lt z) xs) []
      go rest true e = ap (λ r. x ∷ r) rest
      go rest false e =
          let l : lt z x ≡ true = above (lt z x) (sym (ap (λ b. not (lt z x) && not b) h.0) ∙ e) in
          filter_none (ties lt z) xs (each_to (λ w. lt w x ≡ false) (λ w. ties lt z w ≡ false) (λ w k. apart_above z w (above_all z x w l k)) xs up.0)
        where
          above : (b : Bool) → (not b && true) ≡ false → b ≡ true
          above true e = refl
          above false e = absurd (true≢false e)

  at_drop : (xs : List X) (i : ℕ) (z : X) → Rises lt o xs → slice_get xs i ≡ Some z → Each (λ y. lt y z ≡ false) (drop i xs)
  at_drop [] zero z up g = tt
  at_drop [] (suc i) z up g = tt
  at_drop (x ∷ xs) zero z up g =
      let is : x ≡ z = ap (value_or x) g in
      subst (λ v. Each (λ y. lt y v ≡ false) (x ∷ xs)) is (not_itself x, up.0)
  at_drop (x ∷ xs) (suc i) z up g = at_drop xs i z up.1 g

  -- the run that begins at a place is all that ties with its first element
  pub run_is_all : (xs : List X) → Rises lt o xs → (i : ℕ) (z : X) → slice_get xs i ≡ Some z
      → ((j : ℕ) (y : X) → suc j ≡ i → slice_get xs j ≡ Some y → ties lt z y ≡ false)
      → filter (ties lt z) xs ≡ passing_prefix (ties lt z) (drop i xs)
  run_is_all xs up i z g s =
      filter_skip (ties lt z) i xs (each_to (λ y. lt y z ≡ true) (λ y. ties lt z y ≡ false) (λ y l. apart_below z y l) (take i xs) (front_below xs up i z g s))
      ∙ front_run z (drop i xs) (rises_drop i xs up) (at_drop xs i z up g)
