-- Names that stand once, in byte order.
use Rattle.std.proofs.Common.{◌≡◌, ℕ, Bool, true, false, cond, List, [], ◌∷◌, ◌++◌, map, refl, ap, sym, ◌∙◌}
use Rattle.std.specs.Prelude.{if◌then◌else◌, ◌||◌}
use Rattle.std.specs.List.{list_any}
use Rattle.std.specs.Ordering.{is_gt, on}
use Rattle.std.specs.declared.cmp.Ordering.{Ordering}
use Rattle.std.specs.Str.{bytes_eq}
use Rattle.std.proofs.lemmas.Slice.Eq.{bytes_eq-Decides}
use Rattle.std.proofs.lemmas.Bool.{or_from}
use Rattle.change_report.proofs.file_owners.NamedPlaces.{turned}
use Rattle.change_report.specs.own_core.PlanLists.{sorted_distinct_names, prepend_unless_equal_to_first, names_with_adjacent_repeats_merged}
use Rattle.change_report.specs.journal_intent.FreeNames.{HaveNoRepeats, IsNoneOf, IsOneOf}
use Rattle.base_core.specs.ByteOrder.{bytes_cmp}
use Rattle.base_core.specs.Sorted.{sorted_by, with_element_inserted}
use Rattle.base_core.proofs.Sorting.{Each}
use Rattle.base_core.proofs.Booleans.{neither_first, or_swap, neither_second}

any_with : (p : List ℕ → Bool) (x : List ℕ) (ys : List (List ℕ)) → list_any p (with_element_inserted bytes_cmp x ys) ≡ (p x || list_any p ys)
any_with p x [] = refl
any_with p x (y ∷ ys) = by (is_gt (bytes_cmp x y)) (any_with p x ys)
  where
    by : (b : Bool) → list_any p (with_element_inserted bytes_cmp x ys) ≡ (p x || list_any p ys) → list_any p (if b then y ∷ with_element_inserted bytes_cmp x ys else x ∷ y ∷ ys) ≡ (p x || (p y || list_any p ys))
    by true h = ap (λ t. p y || t) h ∙ or_swap (p y) (p x) (list_any p ys)
    by false h = refl

any_in_order : (p : List ℕ → Bool) (xs : List (List ℕ)) → list_any p (sorted_by bytes_cmp xs) ≡ list_any p xs
any_in_order p [] = refl
any_in_order p (x ∷ xs) = any_with p x (sorted_by bytes_cmp xs) ∙ ap (λ t. p x || t) (any_in_order p xs)

once_with : (x : List ℕ) (ys : List (List ℕ)) → IsNoneOf x ys → HaveNoRepeats ys → HaveNoRepeats (with_element_inserted bytes_cmp x ys)
once_with x [] out once = (refl, tt)
once_with x (y ∷ ys) out once = by (is_gt (bytes_cmp x y)) (once_with x ys (neither_second (bytes_eq x y) _ out) once.1)
  where
    by : (b : Bool) → HaveNoRepeats (with_element_inserted bytes_cmp x ys) → HaveNoRepeats (if b then y ∷ with_element_inserted bytes_cmp x ys else x ∷ y ∷ ys)
    by true more = (any_with (bytes_eq y) x ys ∙ or_from (bytes_eq y x) _ (turned x y (neither_first (bytes_eq x y) _ out)) once.0, more)
    by false more = (out, once)

once_sorted : (xs : List (List ℕ)) → HaveNoRepeats xs → HaveNoRepeats (sorted_by bytes_cmp xs)
once_sorted [] once = tt
once_sorted (x ∷ xs) once = once_with x (sorted_by bytes_cmp xs) (any_in_order (bytes_eq x) xs ∙ once.0) (once_sorted xs once.1)

without_same : (xs : List (List ℕ)) → HaveNoRepeats xs → names_with_adjacent_repeats_merged xs ≡ xs
without_same [] once = refl
without_same (x ∷ []) once = refl
without_same (x ∷ y ∷ ys) once =
    ap (prepend_unless_equal_to_first x) (without_same (y ∷ ys) once.1)
    ∙ ap (λ b. cond b (y ∷ ys) (x ∷ y ∷ ys)) (neither_first (bytes_eq x y) _ once.0)

-- names that stand once are only sorted
pub once_ordered : (xs : List (List ℕ)) → HaveNoRepeats xs → sorted_by bytes_cmp xs ≡ sorted_distinct_names xs
unfolding sorted_distinct_names
once_ordered xs once = sym (without_same (sorted_by bytes_cmp xs) (once_sorted xs once))

pub once_both : (xs ys : List (List ℕ)) → HaveNoRepeats xs → HaveNoRepeats ys → ((q : List ℕ) → IsOneOf q xs → IsNoneOf q ys) → HaveNoRepeats (xs ++ ys)
once_both [] ys one two apart = two
once_both (x ∷ xs) ys one two apart =
    (any_both (bytes_eq x) xs ys one.0 (apart x (self x xs)), once_both xs ys one.1 two (λ q at. apart q (later (bytes_eq q x) _ at)))
  where
    any_both : (p : List ℕ → Bool) (xs ys : List (List ℕ)) → list_any p xs ≡ false → list_any p ys ≡ false → list_any p (xs ++ ys) ≡ false
    any_both p [] ys h g = g
    any_both p (z ∷ zs) ys h g = or_from (p z) _ (neither_first (p z) _ h) (any_both p zs ys (neither_second (p z) _ h) g)

    later : (a b : Bool) → b ≡ true → (a || b) ≡ true
    later true b h = refl
    later false b h = h

    self : (x : List ℕ) (xs : List (List ℕ)) → IsOneOf x (x ∷ xs)
    self x xs = ap (λ t. t || list_any (bytes_eq x) xs) ((bytes_eq-Decides x x).1 refl)

-- ---- elements by their names

module _ {X : Type 0} (name : X → List ℕ) where
  map_with : (x : X) (ys : List X) → map name (with_element_inserted (on name bytes_cmp) x ys) ≡ with_element_inserted bytes_cmp (name x) (map name ys)
  map_with x [] = refl
  map_with x (y ∷ ys) = by (is_gt (bytes_cmp (name x) (name y))) (map_with x ys)
    where
      by : (b : Bool) → map name (with_element_inserted (on name bytes_cmp) x ys) ≡ with_element_inserted bytes_cmp (name x) (map name ys)
          → map name (if b then y ∷ with_element_inserted (on name bytes_cmp) x ys else x ∷ y ∷ ys) ≡ (if b then name y ∷ with_element_inserted bytes_cmp (name x) (map name ys) else name x ∷ name y ∷ map name ys)
      by true h = ap (λ l. name y ∷ l) h
      by false h = refl

  pub names_sorted : (xs : List X) → map name (sorted_by (on name bytes_cmp) xs) ≡ sorted_by bytes_cmp (map name xs)
  names_sorted [] = refl
  names_sorted (x ∷ xs) = map_with x (sorted_by (on name bytes_cmp) xs) ∙ ap (with_element_inserted bytes_cmp (name x)) (names_sorted xs)

each_with : {X : Type 0} (cmp : X → X → Ordering) (P : X → Type 0) (x : X) (ys : List X) → P x → Each P ys → Each P (with_element_inserted cmp x ys)
each_with cmp P x [] h each = (h, tt)
each_with cmp P x (y ∷ ys) h each = by (is_gt (cmp x y)) (each_with cmp P x ys h each.1)
  where
    by : (b : Bool) → Each P (with_element_inserted cmp x ys) → Each P (if b then y ∷ with_element_inserted cmp x ys else x ∷ y ∷ ys)
    by true more = (each.0, more)
    by false more = (h, each)

pub each_sorted : {X : Type 0} (cmp : X → X → Ordering) (P : X → Type 0) (xs : List X) → Each P xs → Each P (sorted_by cmp xs)
each_sorted cmp P [] each = tt
each_sorted cmp P (x ∷ xs) each = each_with cmp P x (sorted_by cmp xs) each.0 (each_sorted cmp P xs each.1)
