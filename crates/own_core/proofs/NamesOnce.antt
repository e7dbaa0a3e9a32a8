-- Names in byte order, each once, and the paths of claims.
use Rattle.std.proofs.Common.{◌≡◌, ◌⊎◌, inl, inr, ℕ, Bool, true, false, cond, List, [], ◌∷◌, Option, Some, None, refl, ap, sym, ◌∙◌, true≢false, Less}
use Rattle.std.specs.Prelude.{bytes_eq}
use Rattle.std.specs.Cmp.Lexicographic.{bytes_decides}
use Rattle.std.specs.List.{filter, find}
use Rattle.std.specs.Ordering.{is_lt}
use Rattle.std.proofs.lemmas.Cmp.{nat_list_cmp_total}
use Rattle.base_core.proofs.Rising as Names
use Rattle.base_core.specs.ByteOrder.{bytes_cmp, precedes}
use Rattle.base_core.proofs.Sorting as Sorting
use Rattle.base_core.proofs.Orderings.{is_less}
use Rattle.path_claim_lists.specs.path_claims.Claims.{PathClaim, is_claim_of_path}
use Rattle.path_claim_lists.proofs.Firsts.{paths}
use Rattle.path_claim_lists.proofs.PathOrder.{behind}
use Rattle.own_core.specs.PlanLists.{sorted_distinct_names, prepend_unless_equal_to_first, names_with_adjacent_repeats_merged}
use Rattle.own_core.proofs.InOrder.{from_once, in_order, from_order, order_rises, filter_rises}

-- ---- each once

pub not_below : (x : List ℕ) (xs : List (List ℕ)) → Sorting.Each (λ y. is_lt (bytes_cmp y x) ≡ false) xs → (q : List ℕ) → Names.IsIn q xs → precedes q x ≡ false
not_below x [] h q here = absurd here
not_below x (y ∷ ys) h q (inl is) = ap (λ z. precedes z x) is ∙ h.0
not_below x (y ∷ ys) h q (inr old) = not_below x ys h.1 q old

once_rises : (xs : List (List ℕ)) → Sorting.Rises (λ x y. is_lt (bytes_cmp x y)) (Sorting.ranks bytes_cmp nat_list_cmp_total) xs → Names.Rises (names_with_adjacent_repeats_merged xs)
once_rises [] up = tt
once_rises (x ∷ xs) up = go (names_with_adjacent_repeats_merged xs) (once_rises xs up.1) (λ q here. not_below x xs up.0 q (from_once q xs here))
  where
    go : (w : List (List ℕ)) → Names.Rises w → ((q : List ℕ) → Names.IsIn q w → precedes q x ≡ false) → Names.Rises (prepend_unless_equal_to_first x w)
    go [] r low = (λ q here. absurd here, tt)
    go (y ∷ ys) r low = by_eq (bytes_eq x y) refl
      where
        by_eq : (b : Bool) → bytes_eq x y ≡ b → Names.Rises (cond b (y ∷ ys) (x ∷ y ∷ ys))
        by_eq true e = r
        by_eq false e =
            let apart : bytes_eq y x ≡ false = turned y x e in
            let first : bytes_cmp x y ≡ Less = is_less (bytes_cmp x y) (behind y x (low y (inl refl)) apart) in
            (λ q here. elim here [ inl is ↦ ap (bytes_cmp x) is ∙ first | inr old ↦ nat_list_cmp_total.trans x y q first (r.0 q old) ], r)
          where
            turned : (a b : List ℕ) → bytes_eq b a ≡ false → bytes_eq a b ≡ false
            turned a b e = by_one (bytes_eq a b) refl
              where
                by_one : (t : Bool) → bytes_eq a b ≡ t → t ≡ false
                by_one true f = absurd (true≢false (sym ((bytes_decides b a).1 (sym ((bytes_decides a b).0 f))) ∙ e))
                by_one false f = refl

-- ---- those that pass

pub in_passing : (p : List ℕ → Bool) (q : List ℕ) (xs : List (List ℕ)) → Names.IsIn q (filter p xs) → Names.IsIn q xs × (p q ≡ true)
in_passing p q [] here = absurd here
in_passing p q (x ∷ xs) here = go (p x) refl (in_passing p q xs) here
  where
    go : (b : Bool) → p x ≡ b → (Names.IsIn q (filter p xs) → Names.IsIn q xs × (p q ≡ true)) → Names.IsIn q (cond b (x ∷ filter p xs) (filter p xs)) → Names.IsIn q (x ∷ xs) × (p q ≡ true)
    go true e rest (inl is) = (inl is, ap p is ∙ e)
    go true e rest (inr old) = (inr (rest old).0, (rest old).1)
    go false e rest old = (inr (rest old).0, (rest old).1)

pub passing_in : (p : List ℕ → Bool) (q : List ℕ) (xs : List (List ℕ)) → Names.IsIn q xs → p q ≡ true → Names.IsIn q (filter p xs)
passing_in p q [] here h = absurd here
passing_in p q (x ∷ xs) here h = go (p x) refl (λ old. passing_in p q xs old h) here
  where
    go : (b : Bool) → p x ≡ b → (Names.IsIn q xs → Names.IsIn q (filter p xs)) → (q ≡ x) ⊎ Names.IsIn q xs → Names.IsIn q (cond b (x ∷ filter p xs) (filter p xs))
    go true e rest (inl is) = inl is
    go true e rest (inr old) = inr (rest old)
    go false e rest (inl is) = absurd (true≢false (sym h ∙ (ap p is ∙ e)))
    go false e rest (inr old) = rest old

-- a rising list of just the names that pass
pub same_names : (p : List ℕ → Bool) (ys xs : List (List ℕ)) → Names.Rises ys → ((q : List ℕ) → Names.IsIn q ys → Names.IsIn q xs × (p q ≡ true))
    → ((q : List ℕ) → Names.IsIn q xs → p q ≡ true → Names.IsIn q ys) → ys ≡ filter p (sorted_distinct_names xs)
same_names p ys xs r there back = Names.same_list ys (filter p (sorted_distinct_names xs)) r (filter_rises p (sorted_distinct_names xs) (order_rises xs))
    (λ q here. passing_in p q (sorted_distinct_names xs) (in_order q xs (there q here).0) (there q here).1)
    (λ q here. back q (from_order q xs (in_passing p q (sorted_distinct_names xs) here).0) (in_passing p q (sorted_distinct_names xs) here).1)

-- ---- claims whose paths rise

abbrev pub keep_if : (PathClaim → Bool) → Option PathClaim → Option PathClaim
keep_if t None = None
keep_if t (Some c) = cond (t c) (Some c) None

path_above : (c : PathClaim) (cs : List PathClaim) → Names.Rises (c.path ∷ paths cs) → (q : List ℕ) → bytes_eq c.path q ≡ true → (t : PathClaim → Bool) → find (is_claim_of_path q) (filter t cs) ≡ None
path_above c [] r q e t = refl
path_above c (d ∷ cs) r q e t = go (t d) (path_above c cs (λ z here. r.0 z (inr here), r.1.1) q e t)
  where
    is : c.path ≡ q
    is = (bytes_decides c.path q).0 e

    apart : bytes_eq d.path q ≡ false
    apart = go (bytes_eq d.path q) refl
      where
        itself : bytes_cmp c.path c.path ≡ Less → ⊥
        itself less = true≢false (sym (ap is_lt less) ∙ (Sorting.ranks bytes_cmp nat_list_cmp_total).one_way c.path c.path (ap is_lt less))

        go : (b : Bool) → bytes_eq d.path q ≡ b → b ≡ false
        go true f = absurd (itself (ap (bytes_cmp c.path) (is ∙ sym ((bytes_decides d.path q).0 f)) ∙ r.0 d.path (inl refl)))
        go false f = refl

    go : (b : Bool) → find (is_claim_of_path q) (filter t cs) ≡ None → find (is_claim_of_path q) (cond b (d ∷ filter t cs) (filter t cs)) ≡ None
    go true rest = ap (λ a. cond a (Some d) (find (is_claim_of_path q) (filter t cs))) apart ∙ rest
    go false rest = rest

pub found_kept : (t : PathClaim → Bool) (cs : List PathClaim) → Names.Rises (paths cs) → (q : List ℕ) → find (is_claim_of_path q) (filter t cs) ≡ keep_if t (find (is_claim_of_path q) cs)
found_kept t [] r q = refl
found_kept t (c ∷ cs) r q = go (t c) (bytes_eq c.path q) refl refl (found_kept t cs r.1 q)
  where
    go : (a b : Bool) → t c ≡ a → bytes_eq c.path q ≡ b → find (is_claim_of_path q) (filter t cs) ≡ keep_if t (find (is_claim_of_path q) cs)
        → find (is_claim_of_path q) (cond a (c ∷ filter t cs) (filter t cs)) ≡ keep_if t (cond b (Some c) (find (is_claim_of_path q) cs))
    go true true e f rest = ap (λ x. cond x (Some c) (find (is_claim_of_path q) (filter t cs))) f ∙ sym (ap (λ x. cond x (Some c) None) e)
    go true false e f rest = ap (λ x. cond x (Some c) (find (is_claim_of_path q) (filter t cs))) f ∙ rest
    go false true e f rest = path_above c cs r q f t ∙ sym (ap (λ x. cond x (Some c) None) e)
    go false false e f rest = rest

in_kept_paths : (t : PathClaim → Bool) (cs : List PathClaim) (q : List ℕ) → Names.IsIn q (paths (filter t cs)) → Names.IsIn q (paths cs)
in_kept_paths t [] q here = here
in_kept_paths t (c ∷ cs) q here = go (t c) (in_kept_paths t cs q) here
  where
    go : (b : Bool) → (Names.IsIn q (paths (filter t cs)) → Names.IsIn q (paths cs)) → Names.IsIn q (paths (cond b (c ∷ filter t cs) (filter t cs))) → Names.IsIn q (paths (c ∷ cs))
    go true rest (inl is) = inl is
    go true rest (inr old) = inr (rest old)
    go false rest old = inr (rest old)

pub kept_rises : (t : PathClaim → Bool) (cs : List PathClaim) → Names.Rises (paths cs) → Names.Rises (paths (filter t cs))
kept_rises t [] r = tt
kept_rises t (c ∷ cs) r = go (t c) (kept_rises t cs r.1)
  where
    go : (b : Bool) → Names.Rises (paths (filter t cs)) → Names.Rises (paths (cond b (c ∷ filter t cs) (filter t cs)))
    go true rest = (λ q here. r.0 q (in_kept_paths t cs q here), rest)
    go false rest = rest
