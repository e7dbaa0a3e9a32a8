-- Lists in order: the stable sort of a list by a total order is one list, the one in which each element was put in its place.
use Rattle.std.proofs.Common.{◌≡◌, ℕ, suc, zero, ◌+◌, ◌<◌, ◌≤◌, Bool, true, false, cond, List, [], ◌∷◌, map, length, get_or, refl, ap, sym, ◌∙◌, subst, arith, true≢false}
use Rattle.std.specs.Prelude.{not, ◌&&◌, if◌then◌else◌}
use Rattle.std.specs.Cmp.{IsTotalOrder, IsStrictWeakOrder}
use Rattle.std.specs.List.{filter}
use Rattle.std.specs.List.Sorted.{IsPermutation, IsSorted, IsSortedBy, IsStable, IsStableBy, ties}
use Rattle.std.specs.Ordering.{is_lt, is_gt, ordering_reverse}
use Rattle.std.specs.declared.cmp.Ordering.{Ordering}
use Rattle.std.specs.declared.cmp.Ordering.TheVariants.{Less, Equal, Greater}
use Rattle.std.proofs.lemmas.List.Sorted.{IsPermutation-cons, IsPermutation-middle, IsPermutation-refl, IsPermutation-sym, IsPermutation-trans, ranks_by, sorted_far}
use Rattle.std.proofs.lemmas.Cmp.{on_total}
use Rattle.base_core.specs.Sorted.{with_element_inserted, sorted_by}

abbrev pub Each : {X : Type 0} → (X → Type 0) → List X → Type 0
Each P [] = Unit {0}
Each P (x ∷ xs) = P x × Each P xs

each_map : {X : Type 0} (P Q : X → Type 0) → ((x : X) → P x → Q x) → (xs : List X) → Each P xs → Each Q xs
each_map P Q f [] h = tt
each_map P Q f (x ∷ xs) h = (f x h.0, each_map P Q f xs h.1)

each_either : {X : Type 0} (P : X → Type 0) (b : Bool) (xs ys : List X) → Each P xs → Each P ys → Each P (if b then xs else ys)
each_either P true xs ys h g = h
each_either P false xs ys h g = g

each_placed : {X : Type 0} (P : X → Type 0) (cmp : X → X → Ordering) (x : X) (ys : List X) → P x → Each P ys → Each P (with_element_inserted cmp x ys)
each_placed P cmp x [] px h = (px, tt)
each_placed P cmp x (y ∷ ys) px h = each_either P (is_gt (cmp x y)) (y ∷ with_element_inserted cmp x ys) (x ∷ y ∷ ys) (h.0, each_placed P cmp x ys px h.1) (px, h)

module _ {X : Type 0} (lt : X → X → Bool) (o : IsStrictWeakOrder lt) where
  -- no element comes in front of a smaller one
  abbrev pub Rises : List X → Type 0
  Rises [] = Unit {0}
  Rises (x ∷ xs) = Each (λ y. lt y x ≡ false) xs × Rises xs

  each_from : (P : X → Type 0) (xs : List X) → ((j : ℕ) (d : X) → j < length xs → P (get_or xs j d)) → Each P xs
  each_from P [] h = tt
  each_from P (x ∷ xs) h = (h zero x (omega arith), each_from P xs (λ j d l. h (suc j) d (omega arith)))

  rises_from : (xs : List X) → ((i j : ℕ) (d : X) → i ≤ j → j < length xs → lt (get_or xs j d) (get_or xs i d) ≡ false) → Rises xs
  rises_from [] h = tt
  rises_from (x ∷ xs) h = (each_from (λ y. lt y x ≡ false) xs (λ j d l. h zero (suc j) d (omega arith) (omega arith)), rises_from xs (λ i j d l m. h (suc i) (suc j) d (omega arith) (omega arith)))

  pub rises_sorted : (xs : List X) → IsSortedBy lt xs → Rises xs
  rises_sorted xs up = rises_from xs (λ i j d l m. sorted_far lt o xs up i j d l m)

  pub adjacent : (xs : List X) → Rises xs → (k : ℕ) (d : X) → suc k < length xs → lt (get_or xs (suc k) d) (get_or xs k d) ≡ false
  adjacent [] h k d l = absurd (omega arith)
  adjacent (x ∷ []) h k d l = absurd (omega arith)
  adjacent (x ∷ y ∷ ys) h zero d l = h.0.0
  adjacent (x ∷ y ∷ ys) h (suc k) d l = adjacent (y ∷ ys) h.1 k d (omega arith)

  -- ---- ties

  itself : (x : X) → lt x x ≡ false
  itself x = go (lt x x) (o.one_way x x)
    where
      go : (b : Bool) → (b ≡ true → b ≡ false) → b ≡ false
      go true f = f refl
      go false f = refl

  not_tied : (x y : X) → lt x y ≡ true → ties lt x y ≡ false
  not_tied x y h = ap (λ b. not b && not (lt y x)) h

  not_tied_back : (x y : X) → lt y x ≡ true → ties lt x y ≡ false
  not_tied_back x y h = (λ j. not (lt x y) && not (h j)) ∙ go (lt x y)
    where
      go : (b : Bool) → (not b && false) ≡ false
      go true = refl
      go false = refl

  tied_itself : (x : X) → ties lt x x ≡ true
  tied_itself x = ap (λ b. not b && not b) (itself x)

  -- what is above a bound is above what is below it
  above : (x y z : X) → lt x y ≡ true → lt z y ≡ false → lt x z ≡ true
  above x y z h g = go (lt x z) refl
    where
      go : (b : Bool) → lt x z ≡ b → b ≡ true
      go true e = refl
      go false e = absurd (true≢false (sym h ∙ o.chain x z y e g))

  none_tied : (x y : X) (ys : List X) → lt x y ≡ true → Each (λ z. lt z y ≡ false) ys → filter (ties lt x) ys ≡ []
  none_tied x y [] h g = refl
  none_tied x y (z ∷ zs) h g = ap (λ b. cond b (z ∷ filter (ties lt x) zs) (filter (ties lt x) zs)) (not_tied x z (above x y z h g.0)) ∙ none_tied x y zs h g.1

  -- ---- two lists in order with the same ties are one

  pub tail_of : List X → List X
  tail_of [] = []
  tail_of (x ∷ xs) = xs

  head_of : X → List X → X
  head_of d [] = d
  head_of d (x ∷ xs) = x

  no_head : (x : X) (xs : List X) → x ∷ xs ≡ [] → ⊥
  no_head x xs e = true≢false (ap is_some_list e)
    where
      is_some_list : List X → Bool
      is_some_list [] = false
      is_some_list (y ∷ ys) = true

  first_kept : (x : X) (xs : List X) → filter (ties lt x) (x ∷ xs) ≡ x ∷ filter (ties lt x) xs
  first_kept x xs = ap (λ b. cond b (x ∷ filter (ties lt x) xs) (filter (ties lt x) xs)) (tied_itself x)

  none_kept : (x y : X) (ys : List X) → lt x y ≡ true → Each (λ z. lt z y ≡ false) ys → filter (ties lt x) (y ∷ ys) ≡ []
  none_kept x y ys h g = none_tied x y (y ∷ ys) h (itself y, g)

  pub one_order : (xs ys : List X) → Rises xs → Rises ys → ((x : X) → filter (ties lt x) ys ≡ filter (ties lt x) xs) → ys ≡ xs
  unfolding tail_of head_of
  one_order [] [] rx ry h = refl
  one_order [] (y ∷ ys) rx ry h = absurd (no_head y _ (sym (first_kept y ys) ∙ h y))
  one_order (x ∷ xs) [] rx ry h = absurd (no_head x _ (sym (first_kept x xs) ∙ sym (h x)))
  one_order (x ∷ xs) (y ∷ ys) rx ry h = by_below (λ e. one_order xs ys rx.1 ry.1 (tails e)) (lt x y) refl
    where
      tails : y ≡ x → (z : X) → filter (ties lt z) ys ≡ filter (ties lt z) xs
      tails e z = go (ties lt z x) refl
        where
          there : filter (ties lt z) (x ∷ ys) ≡ filter (ties lt z) (x ∷ xs)
          there = ap (λ w. filter (ties lt z) (w ∷ ys)) (sym e) ∙ h z

          go : (b : Bool) → ties lt z x ≡ b → filter (ties lt z) ys ≡ filter (ties lt z) xs
          go true t =
              ap tail_of (sym (ap (λ b. cond b (x ∷ filter (ties lt z) ys) (filter (ties lt z) ys)) t) ∙ (there ∙ ap (λ b. cond b (x ∷ filter (ties lt z) xs) (filter (ties lt z) xs)) t))
          go false t =
              sym (ap (λ b. cond b (x ∷ filter (ties lt z) ys) (filter (ties lt z) ys)) t) ∙ (there ∙ ap (λ b. cond b (x ∷ filter (ties lt z) xs) (filter (ties lt z) xs)) t)

      heads : ties lt x y ≡ true → y ≡ x
      heads t = ap (head_of x) (sym (ap (λ b. cond b (y ∷ filter (ties lt x) ys) (filter (ties lt x) ys)) t) ∙ (h x ∙ first_kept x xs))

      by_above : (y ≡ x → ys ≡ xs) → lt x y ≡ false → (b : Bool) → lt y x ≡ b → y ∷ ys ≡ x ∷ xs
      by_above again l true g = absurd (no_head y _ (sym (first_kept y ys) ∙ (h y ∙ none_kept y x xs g rx.0)))
      by_above again l false g =
          let t : ties lt x y ≡ true = (λ j. not (l j) && not (g j)) in
          (λ j. heads t j ∷ again (heads t) j)

      by_below : (y ≡ x → ys ≡ xs) → (b : Bool) → lt x y ≡ b → y ∷ ys ≡ x ∷ xs
      by_below again true l = absurd (no_head x _ (sym (first_kept x xs) ∙ (sym (h x) ∙ none_kept x y ys l ry.0)))
      by_below again false l = by_above again l (lt y x) refl

-- ---- each element in its place

module _ {X : Type 0} (cmp : X → X → Ordering) (o : IsTotalOrder cmp) where
  pub ranks : IsStrictWeakOrder (λ x y. is_lt (cmp x y))
  ranks = ranks_by o (λ x. x)

  back : (r : Ordering) → is_gt (ordering_reverse r) ≡ is_lt r
  back Less = refl
  back Equal = refl
  back Greater = refl

  pub gt_is_lt : (x y : X) → is_gt (cmp x y) ≡ is_lt (cmp y x)
  gt_is_lt x y = ap is_gt (o.antisymm x y) ∙ back (cmp y x)

  rises_placed : (x : X) (ys : List X) → Rises (λ x y. is_lt (cmp x y)) ranks ys → Rises (λ x y. is_lt (cmp x y)) ranks (with_element_inserted cmp x ys)
  rises_placed x [] h = (tt, tt)
  rises_placed x (y ∷ ys) h = go (is_gt (cmp x y)) refl (rises_placed x ys h.1)
    where
      go : (b : Bool) → is_gt (cmp x y) ≡ b → Rises (λ x y. is_lt (cmp x y)) ranks (with_element_inserted cmp x ys) → Rises (λ x y. is_lt (cmp x y)) ranks (if b then y ∷ with_element_inserted cmp x ys else x ∷ y ∷ ys)
      go true e r = (each_placed (λ z. is_lt (cmp z y) ≡ false) cmp x ys (ranks.one_way y x (sym (gt_is_lt x y) ∙ e)) h.0, r)
      go false e r =
          let l : is_lt (cmp y x) ≡ false = sym (gt_is_lt x y) ∙ e in
          ((l, each_map (λ z. is_lt (cmp z y) ≡ false) (λ z. is_lt (cmp z x) ≡ false) (λ z g. ranks.chain z y x g l) ys h.0), h)

  pub rises_in_order : (xs : List X) → Rises (λ x y. is_lt (cmp x y)) ranks (sorted_by cmp xs)
  rises_in_order [] = tt
  rises_in_order (x ∷ xs) = rises_placed x (sorted_by cmp xs) (rises_in_order xs)

  kept : Bool → X → List X → List X
  kept b x xs = cond b (x ∷ xs) xs

  -- two that are kept are not one above the other
  passed : (z x y : X) (rest : List X) → is_lt (cmp y x) ≡ true → kept (ties (λ x y. is_lt (cmp x y)) z y) y (kept (ties (λ x y. is_lt (cmp x y)) z x) x rest) ≡ kept (ties (λ x y. is_lt (cmp x y)) z x) x (kept (ties (λ x y. is_lt (cmp x y)) z y) y rest)
  unfolding kept
  passed z x y rest l = go (ties (λ x y. is_lt (cmp x y)) z y) (ties (λ x y. is_lt (cmp x y)) z x) refl refl
    where
      not_both : ties (λ x y. is_lt (cmp x y)) z y ≡ true → ties (λ x y. is_lt (cmp x y)) z x ≡ true → ⊥
      not_both a b = true≢false (sym l ∙ ranks.chain y z x (second (is_lt (cmp z y)) (is_lt (cmp y z)) a) (first (is_lt (cmp z x)) (is_lt (cmp x z)) b))
        where
          first : (s t : Bool) → (not s && not t) ≡ true → s ≡ false
          first true t e = absurd (true≢false (sym e))
          first false t e = refl

          second : (s t : Bool) → (not s && not t) ≡ true → t ≡ false
          second true t e = absurd (true≢false (sym e))
          second false true e = absurd (true≢false (sym e))
          second false false e = refl

      go : (a b : Bool) → ties (λ x y. is_lt (cmp x y)) z y ≡ a → ties (λ x y. is_lt (cmp x y)) z x ≡ b → kept a y (kept b x rest) ≡ kept b x (kept a y rest)
      go true true ea eb = absurd (not_both ea eb)
      go true false ea eb = refl
      go false true ea eb = refl
      go false false ea eb = refl

  stable_placed : (z x : X) (ys : List X) → filter (ties (λ x y. is_lt (cmp x y)) z) (with_element_inserted cmp x ys) ≡ filter (ties (λ x y. is_lt (cmp x y)) z) (x ∷ ys)
  unfolding kept
  stable_placed z x [] = refl
  stable_placed z x (y ∷ ys) = go (is_gt (cmp x y)) refl (stable_placed z x ys)
    where
      go : (b : Bool) → is_gt (cmp x y) ≡ b → filter (ties (λ x y. is_lt (cmp x y)) z) (with_element_inserted cmp x ys) ≡ filter (ties (λ x y. is_lt (cmp x y)) z) (x ∷ ys) → filter (ties (λ x y. is_lt (cmp x y)) z) (if b then y ∷ with_element_inserted cmp x ys else x ∷ y ∷ ys) ≡ filter (ties (λ x y. is_lt (cmp x y)) z) (x ∷ y ∷ ys)
      go true e h = ap (kept (ties (λ x y. is_lt (cmp x y)) z y) y) h ∙ passed z x y (filter (ties (λ x y. is_lt (cmp x y)) z) ys) (sym (gt_is_lt x y) ∙ e)
      go false e h = refl

  pub stable_in_order : (z : X) (xs : List X) → filter (ties (λ x y. is_lt (cmp x y)) z) (sorted_by cmp xs) ≡ filter (ties (λ x y. is_lt (cmp x y)) z) xs
  stable_in_order z [] = refl
  stable_in_order z (x ∷ xs) = stable_placed z x (sorted_by cmp xs) ∙ ap (λ rest. cond (ties (λ x y. is_lt (cmp x y)) z x) (x ∷ rest) rest) (stable_in_order z xs)

  -- what a stable sort gives
  pub sort_is : (xs ys : List X) → IsSortedBy (λ x y. is_lt (cmp x y)) ys → IsStableBy (λ x y. is_lt (cmp x y)) xs ys → ys ≡ sorted_by cmp xs
  sort_is xs ys up st = one_order (λ x y. is_lt (cmp x y)) ranks (sorted_by cmp xs) ys (rises_in_order xs) (rises_sorted (λ x y. is_lt (cmp x y)) ranks ys up) (λ z. st z ∙ sym (stable_in_order z xs))

-- ---- the elements stay

with_same : {X : Type 0} (cmp : X → X → Ordering) (x : X) (ys : List X) → IsPermutation (x ∷ ys) (with_element_inserted cmp x ys)
with_same cmp x [] = IsPermutation-refl (x ∷ [])
with_same cmp x (y ∷ ys) = go (is_gt (cmp x y)) (with_same cmp x ys)
  where
    go : (b : Bool) → IsPermutation (x ∷ ys) (with_element_inserted cmp x ys) → IsPermutation (x ∷ y ∷ ys) (if b then y ∷ with_element_inserted cmp x ys else x ∷ y ∷ ys)
    go true h =
        let moved : IsPermutation (x ∷ y ∷ ys) (y ∷ x ∷ ys) = IsPermutation-sym _ _ (IsPermutation-middle (y ∷ []) x ys) in
        IsPermutation-trans _ _ _ moved (IsPermutation-cons y (x ∷ ys) (with_element_inserted cmp x ys) h)
    go false h = IsPermutation-refl (x ∷ y ∷ ys)

pub sorted_same : {X : Type 0} (cmp : X → X → Ordering) (xs : List X) → IsPermutation xs (sorted_by cmp xs)
sorted_same cmp [] = IsPermutation-refl []
sorted_same cmp (x ∷ xs) =
    IsPermutation-trans _ _ _ (IsPermutation-cons x xs (sorted_by cmp xs) (sorted_same cmp xs)) (with_same cmp x (sorted_by cmp xs))

-- ---- sorted by what is seen of the elements

placed_map : {X Y : Type 0} (f : X → Y) (cmp : Y → Y → Ordering) (x : X) (ys : List X) → map f (with_element_inserted (λ a b. cmp (f a) (f b)) x ys) ≡ with_element_inserted cmp (f x) (map f ys)
placed_map f cmp x [] = refl
placed_map f cmp x (y ∷ ys) = go (is_gt (cmp (f x) (f y))) (placed_map f cmp x ys)
  where
    go : (b : Bool) → map f (with_element_inserted (λ a b. cmp (f a) (f b)) x ys) ≡ with_element_inserted cmp (f x) (map f ys) → map f (if b then y ∷ with_element_inserted (λ a b. cmp (f a) (f b)) x ys else x ∷ y ∷ ys) ≡ (if b then f y ∷ with_element_inserted cmp (f x) (map f ys) else f x ∷ f y ∷ map f ys)
    go true h = ap (λ rest. f y ∷ rest) h
    go false h = refl

in_order_map : {X Y : Type 0} (f : X → Y) (cmp : Y → Y → Ordering) (xs : List X) → map f (sorted_by (λ a b. cmp (f a) (f b)) xs) ≡ sorted_by cmp (map f xs)
in_order_map f cmp [] = refl
in_order_map f cmp (x ∷ xs) = placed_map f cmp x (sorted_by (λ a b. cmp (f a) (f b)) xs) ∙ ap (with_element_inserted cmp (f x)) (in_order_map f cmp xs)

pub sort_seen : {X Y : Type 0} (f : X → Y) (cmp : Y → Y → Ordering) → IsTotalOrder cmp → (xs ys : List X) → IsSortedBy (λ x y. is_lt (cmp (f x) (f y))) ys → IsStableBy (λ x y. is_lt (cmp (f x) (f y))) xs ys → map f ys ≡ sorted_by cmp (map f xs)
sort_seen f cmp o xs ys up st = ap (map f) (sort_is (λ a b. cmp (f a) (f b)) (on_total f o) xs ys up st) ∙ in_order_map f cmp xs

-- no element is in front of a smaller one, as std says it
pub sorted_up : {X : Type 0} (cmp : X → X → Ordering) → IsTotalOrder cmp → (xs : List X) → IsSorted cmp (sorted_by cmp xs)
sorted_up cmp o xs k d low l =
    let e : suc k ≡ k + 1 = omega arith in
    subst (λ m. is_lt (cmp (get_or (sorted_by cmp xs) m d) (get_or (sorted_by cmp xs) k d)) ≡ false) e
    (adjacent (λ x y. is_lt (cmp x y)) (ranks cmp o) (sorted_by cmp xs) (rises_in_order cmp o xs) k d (omega arith))

-- equal elements stay in their order
pub stable : {X : Type 0} (cmp : X → X → Ordering) → IsTotalOrder cmp → (xs : List X) → IsStable cmp xs (sorted_by cmp xs)
stable cmp o xs z = stable_in_order cmp o z xs
