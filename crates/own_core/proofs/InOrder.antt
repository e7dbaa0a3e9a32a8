-- Names in byte order, each once: which they are, and that they rise.
use Rattle.std.proofs.Common.{◌≡◌, ◌⊎◌, inl, inr, ◌∙◌, ℕ, Bool, true, false, cond, List, [], ◌∷◌, ◌++◌, map, refl, ap, sym, subst, true≢false}
use Rattle.std.specs.Prelude.{if◌then◌else◌}
use Rattle.std.specs.List.{filter}
use Rattle.std.specs.Ordering.{is_gt, is_lt, ordering_reverse}
use Rattle.std.specs.declared.cmp.Ordering.{Ordering}
use Rattle.std.specs.declared.cmp.Ordering.TheVariants.{Less, Equal, Greater}
use Rattle.std.specs.Str.{bytes_eq}
use Rattle.std.proofs.lemmas.Cmp.{nat_list_cmp_total}
use Rattle.std.proofs.lemmas.Map.Lookups.{exact_bytes}
use Rattle.std.proofs.lemmas.Slice.Eq.{bytes_eq-Decides}
use Rattle.base_core.proofs.Rising.{IsIn, Rises, order}
use Rattle.base_core.specs.ByteOrder.{bytes_cmp}
use Rattle.base_core.specs.Sorted.{sorted_by, with_element_inserted}
use Rattle.base_core.proofs.Sorting.{Each, rises_in_order, ranks}
use Rattle.base_core.proofs.Sorting as sorting
use Rattle.own_core.specs.PlanLists.{sorted_distinct_names, prepend_unless_equal_to_first, names_with_adjacent_repeats_merged}

-- ---- sorted

pub in_with : (q x : List ℕ) (ys : List (List ℕ)) → (q ≡ x) ⊎ IsIn q ys → IsIn q (with_element_inserted bytes_cmp x ys)
in_with q x [] h = h
in_with q x (y ∷ ys) h = by_test (is_gt (bytes_cmp x y)) (in_with q x ys) h
  where
    by_test : (b : Bool) → ((q ≡ x) ⊎ IsIn q ys → IsIn q (with_element_inserted bytes_cmp x ys)) → (q ≡ x) ⊎ IsIn q (y ∷ ys) → IsIn q (if b then y ∷ with_element_inserted bytes_cmp x ys else x ∷ y ∷ ys)
    by_test true f (inl is) = inr (f (inl is))
    by_test true f (inr (inl is)) = inl is
    by_test true f (inr (inr more)) = inr (f (inr more))
    by_test false f h = h

pub from_with : (q x : List ℕ) (ys : List (List ℕ)) → IsIn q (with_element_inserted bytes_cmp x ys) → (q ≡ x) ⊎ IsIn q ys
from_with q x [] h = h
from_with q x (y ∷ ys) h = by_test (is_gt (bytes_cmp x y)) (from_with q x ys) h
  where
    by_test : (b : Bool) → (IsIn q (with_element_inserted bytes_cmp x ys) → (q ≡ x) ⊎ IsIn q ys) → IsIn q (if b then y ∷ with_element_inserted bytes_cmp x ys else x ∷ y ∷ ys) → (q ≡ x) ⊎ IsIn q (y ∷ ys)
    by_test true f (inl is) = inr (inl is)
    by_test true f (inr more) = elim (f more) [ inl is ↦ inl is | inr old ↦ inr (inr old) ]
    by_test false f h = h

pub in_sorted : (q : List ℕ) (xs : List (List ℕ)) → IsIn q xs → IsIn q (sorted_by bytes_cmp xs)
in_sorted q [] h = h
in_sorted q (x ∷ xs) (inl is) = in_with q x (sorted_by bytes_cmp xs) (inl is)
in_sorted q (x ∷ xs) (inr more) = in_with q x (sorted_by bytes_cmp xs) (inr (in_sorted q xs more))

pub from_sorted : (q : List ℕ) (xs : List (List ℕ)) → IsIn q (sorted_by bytes_cmp xs) → IsIn q xs
from_sorted q [] h = h
from_sorted q (x ∷ xs) h = elim (from_with q x (sorted_by bytes_cmp xs) h) [ inl is ↦ inl is | inr more ↦ inr (from_sorted q xs more) ]

-- ---- each once

pub in_unless : (q x : List ℕ) (ys : List (List ℕ)) → (q ≡ x) ⊎ IsIn q ys → IsIn q (prepend_unless_equal_to_first x ys)
in_unless q x [] h = h
in_unless q x (y ∷ ys) h = by_test (bytes_eq x y) refl h
  where
    by_test : (b : Bool) → bytes_eq x y ≡ b → (q ≡ x) ⊎ IsIn q (y ∷ ys) → IsIn q (cond b (y ∷ ys) (x ∷ y ∷ ys))
    by_test true e (inl is) = inl (is ∙ (bytes_eq-Decides x y).0 e)
    by_test true e (inr more) = more
    by_test false e h = h

pub from_unless : (q x : List ℕ) (ys : List (List ℕ)) → IsIn q (prepend_unless_equal_to_first x ys) → (q ≡ x) ⊎ IsIn q ys
from_unless q x [] h = h
from_unless q x (y ∷ ys) h = by_test (bytes_eq x y) h
  where
    by_test : (b : Bool) → IsIn q (cond b (y ∷ ys) (x ∷ y ∷ ys)) → (q ≡ x) ⊎ IsIn q (y ∷ ys)
    by_test true h = inr h
    by_test false h = h

pub in_once : (q : List ℕ) (xs : List (List ℕ)) → IsIn q xs → IsIn q (names_with_adjacent_repeats_merged xs)
in_once q [] h = h
in_once q (x ∷ xs) (inl is) = in_unless q x (names_with_adjacent_repeats_merged xs) (inl is)
in_once q (x ∷ xs) (inr more) = in_unless q x (names_with_adjacent_repeats_merged xs) (inr (in_once q xs more))

pub from_once : (q : List ℕ) (xs : List (List ℕ)) → IsIn q (names_with_adjacent_repeats_merged xs) → IsIn q xs
from_once q [] h = h
from_once q (x ∷ xs) h = elim (from_unless q x (names_with_adjacent_repeats_merged xs) h) [ inl is ↦ inl is | inr more ↦ inr (from_once q xs more) ]

pub in_order : (q : List ℕ) (names : List (List ℕ)) → IsIn q names → IsIn q (sorted_distinct_names names)
unfolding sorted_distinct_names
in_order q names h = in_once q (sorted_by bytes_cmp names) (in_sorted q names h)

pub from_order : (q : List ℕ) (names : List (List ℕ)) → IsIn q (sorted_distinct_names names) → IsIn q names
unfolding sorted_distinct_names
from_order q names h = from_sorted q names (from_once q (sorted_by bytes_cmp names) h)

-- ---- they rise

each_in : (P : List ℕ → Type 0) (xs : List (List ℕ)) → Each P xs → (q : List ℕ) → IsIn q xs → P q
each_in P [] h q here = absurd here
each_in P (x ∷ xs) h q (inl is) = subst P (sym is) h.0
each_in P (x ∷ xs) h q (inr more) = each_in P xs h.1 q more

comes_first : (x y : List ℕ) → is_lt (order y x) ≡ false → bytes_eq x y ≡ false → order x y ≡ Less
comes_first x y late apart = by_order (order x y) refl
  where
    by_order : (o : Ordering) → order x y ≡ o → o ≡ Less
    by_order Less e = refl
    by_order Equal e = absurd (true≢false (sym ((bytes_eq-Decides x y).1 (exact_bytes x y e)) ∙ apart))
    by_order Greater e = absurd (true≢false (sym (ap is_lt (nat_list_cmp_total.antisymm y x ∙ ap ordering_reverse e)) ∙ late))

rises_next : (x : List ℕ) (ys : List (List ℕ)) → ((q : List ℕ) → IsIn q ys → is_lt (order q x) ≡ false) → Rises ys → Rises (prepend_unless_equal_to_first x ys)
rises_next x [] late rises = (λ q here. absurd here, tt)
rises_next x (y ∷ ys) late rises = by_test (bytes_eq x y) refl
  where
    by_test : (b : Bool) → bytes_eq x y ≡ b → Rises (cond b (y ∷ ys) (x ∷ y ∷ ys))
    by_test true e = rises
    by_test false e =
        let first : order x y ≡ Less = comes_first x y (late y (inl refl)) e in (
          λ q here. elim here [
            | inl is ↦ ap (order x) is ∙ first
            | inr more ↦ nat_list_cmp_total.trans x y q first (rises.0 q more)
          ],
          rises,
        )

abbrev RisesWeakly : List (List ℕ) → Type 0
RisesWeakly xs = sorting.Rises (λ x y. is_lt (bytes_cmp x y)) (ranks bytes_cmp nat_list_cmp_total) xs

rises_once : (xs : List (List ℕ)) → RisesWeakly xs → Rises (names_with_adjacent_repeats_merged xs)
rises_once [] h = tt
rises_once (x ∷ xs) h =
    rises_next x (names_with_adjacent_repeats_merged xs) (λ q here. each_in (λ y. is_lt (order y x) ≡ false) xs h.0 q (from_once q xs here)) (rises_once xs h.1)

pub order_rises : (names : List (List ℕ)) → Rises (sorted_distinct_names names)
unfolding sorted_distinct_names
order_rises names = rises_once (sorted_by bytes_cmp names) (rises_in_order bytes_cmp nat_list_cmp_total names)

-- ---- those that pass a test

pub in_filter : (p : List ℕ → Bool) (xs : List (List ℕ)) (q : List ℕ) → IsIn q xs → p q ≡ true → IsIn q (filter p xs)
in_filter p [] q here passes = here
in_filter p (x ∷ xs) q here passes = by_test (p x) refl here (λ more. in_filter p xs q more passes)
  where
    by_test : (b : Bool) → p x ≡ b → IsIn q (x ∷ xs) → (IsIn q xs → IsIn q (filter p xs)) → IsIn q (cond b (x ∷ filter p xs) (filter p xs))
    by_test true e (inl is) f = inl is
    by_test true e (inr more) f = inr (f more)
    by_test false e (inl is) f = absurd (true≢false (sym passes ∙ (ap p is ∙ e)))
    by_test false e (inr more) f = f more

pub from_filter : (p : List ℕ → Bool) (xs : List (List ℕ)) (q : List ℕ) → IsIn q (filter p xs) → IsIn q xs × (p q ≡ true)
from_filter p [] q here = absurd here
from_filter p (x ∷ xs) q here = by_test (p x) refl here (from_filter p xs q)
  where
    by_test : (b : Bool) → p x ≡ b → IsIn q (cond b (x ∷ filter p xs) (filter p xs)) → (IsIn q (filter p xs) → IsIn q xs × (p q ≡ true)) → IsIn q (x ∷ xs) × (p q ≡ true)
    by_test true e (inl is) f = (inl is, ap p is ∙ e)
    by_test true e (inr more) f = let found = f more in (inr found.0, found.1)
    by_test false e here f = let found = f here in (inr found.0, found.1)

pub filter_rises : (p : List ℕ → Bool) (xs : List (List ℕ)) → Rises xs → Rises (filter p xs)
filter_rises p [] rises = tt
filter_rises p (x ∷ xs) rises = by_test (p x) (filter_rises p xs rises.1)
  where
    by_test : (b : Bool) → Rises (filter p xs) → Rises (cond b (x ∷ filter p xs) (filter p xs))
    by_test true more = (λ q here. rises.0 q (from_filter p xs q here).0, more)
    by_test false more = more

-- ---- in several lists

pub in_left : (q : List ℕ) (xs ys : List (List ℕ)) → IsIn q xs → IsIn q (xs ++ ys)
in_left q [] ys h = absurd h
in_left q (x ∷ xs) ys (inl is) = inl is
in_left q (x ∷ xs) ys (inr more) = inr (in_left q xs ys more)

pub in_right : (q : List ℕ) (xs ys : List (List ℕ)) → IsIn q ys → IsIn q (xs ++ ys)
in_right q [] ys h = h
in_right q (x ∷ xs) ys h = inr (in_right q xs ys h)

pub in_map : (f : List ℕ → List ℕ) (q : List ℕ) (xs : List (List ℕ)) → IsIn q xs → IsIn (f q) (map f xs)
in_map f q [] h = h
in_map f q (x ∷ xs) (inl is) = inl (ap f is)
in_map f q (x ∷ xs) (inr more) = inr (in_map f q xs more)
