-- The first claim of each path, one claim more.
use Rattle.std.proofs.Common.{◌≡◌, ◌⊎◌, inl, inr, ℕ, suc, zero, ◌+◌, ◌<◌, ◌≤◌, Bool, true, false, cond, List, [], ◌∷◌, ◌++◌, length, map, take, Option, Some, None, refl, ap, sym, ◌∙◌, subst, arith, true≢false, Less}
use Rattle.std.specs.Prelude.{slice_get, slice_index_or, bytes_eq}
use Rattle.std.specs.Cmp.Lexicographic.{bytes_decides}
use Rattle.std.specs.List.{find}
use Rattle.std.specs.List.Sorted.{IsSorted, ties}
use Rattle.std.specs.Ordering.{is_lt}
use Rattle.std.proofs.lemmas.Bool.{not-true, not-false}
use Rattle.std.proofs.lemmas.Option.{slice_get_cases}
use Rattle.base_core.specs.Listed.{AreSortedDistinctTexts}
use Rattle.base_core.proofs.Rising as Names
use Rattle.base_core.specs.ByteOrder.{bytes_cmp, precedes}
use Rattle.base_core.proofs.Sorting.{Each, ranks, rises_sorted}
use Rattle.base_core.proofs.Orderings.{is_less}
use Rattle.path_claims.specs.Claims.{PathClaim, claim_cmp, is_claim_of_path}
use Rattle.path_claims.specs.Runs.{differ_in_path, is_first_of_path}
use Rattle.path_claims.proofs.ClaimOrder.{claims_total}
use Rattle.path_claims.proofs.Owned.{ties_path}
use Rattle.path_claims.specs.Seen.{claim_seen}
use Rattle.path_claims.specs.declared.claim.Claim.{Claim}
use Rattle.path_claims.proofs.Places.{map_len, no_some, seen_at, value_or}
use Rattle.path_claims.proofs.Runs.{front_below}
use Rattle.path_claim_lists.specs.Once.{HasFirstClaimOfEachPath}
use Rattle.path_claim_lists.proofs.Lists.{found_both, found_is, found_some, or_found, take_at, take_whole}

abbrev pub paths : List PathClaim → List (List ℕ)
paths cs = map (λ c. c.path) cs

-- a name more behind all
pub rises_more : (xs : List (List ℕ)) (x : List ℕ) → Names.Rises xs → ((q : List ℕ) → Names.IsIn q xs → Names.order q x ≡ Less) → Names.Rises (xs ++ x ∷ [])
rises_more [] x r h = (λ q here. absurd here, tt)
rises_more (y ∷ ys) x r h = (λ q here. elim (in_more ys q here) [ inl old ↦ r.0 q old | inr is ↦ ap (Names.order y) is ∙ h y (inl refl) ], rises_more ys x r.1 (λ q old. h q (inr old)))
  where
    in_more : (ys : List (List ℕ)) (q : List ℕ) → Names.IsIn q (ys ++ x ∷ []) → Names.IsIn q ys ⊎ (q ≡ x)
    in_more [] q (inl is) = inr is
    in_more [] q (inr old) = absurd old
    in_more (z ∷ zs) q (inl is) = inl (inl is)
    in_more (z ∷ zs) q (inr old) = elim (in_more zs q old) [ inl more ↦ inl (inr more) | inr is ↦ inr is ]

-- a path of the list has a first claim there
pub found_in : (cs : List PathClaim) (q : List ℕ) → Names.IsIn q (paths cs) → (c : PathClaim) × (find (is_claim_of_path q) cs ≡ Some c)
found_in [] q here = absurd here
found_in (c ∷ cs) q here = go (bytes_eq c.path q) refl (found_in cs q) here
  where
    go : (b : Bool) → bytes_eq c.path q ≡ b → (Names.IsIn q (paths cs) → (d : PathClaim) × (find (is_claim_of_path q) cs ≡ Some d)) → (q ≡ c.path) ⊎ Names.IsIn q (paths cs)
        → (d : PathClaim) × (cond b (Some c) (find (is_claim_of_path q) cs) ≡ Some d)
    go true e rest here = (c, refl)
    go false e rest (inl is) = absurd (true≢false (sym ((bytes_decides c.path q).1 (sym is)) ∙ e))
    go false e rest (inr old) = rest old

-- and what is found is there
pub in_found : (cs : List PathClaim) (q : List ℕ) (c : PathClaim) → find (is_claim_of_path q) cs ≡ Some c → Names.IsIn q (paths cs)
in_found [] q c e = absurd (no_some c e)
in_found (d ∷ cs) q c e = go (bytes_eq d.path q) refl (in_found cs q c) e
  where
    go : (b : Bool) → bytes_eq d.path q ≡ b → (find (is_claim_of_path q) cs ≡ Some c → Names.IsIn q (paths cs)) → cond b (Some d) (find (is_claim_of_path q) cs) ≡ Some c → Names.IsIn q (paths (d ∷ cs))
    go true t rest e = inl (sym ((bytes_decides d.path q).0 t))
    go false t rest e = inr (rest e)

-- ---- the loop

pub no_firsts : HasFirstClaimOfEachPath [] []
no_firsts = record { rising = λ i j d before below. absurd (omega (arith, below)); each = λ path. refl }

more_found : (cs fs : List PathClaim) (c : PathClaim) → ((q : List ℕ) → find (is_claim_of_path q) fs ≡ find (is_claim_of_path q) cs)
    → (q : List ℕ) → find (is_claim_of_path q) (fs ++ c ∷ []) ≡ find (is_claim_of_path q) (cs ++ c ∷ [])
more_found cs fs c h q =
    found_both (is_claim_of_path q) fs (c ∷ []) ∙ (ap (λ o. or_found o (find (is_claim_of_path q) (c ∷ []))) (h q) ∙ sym (found_both (is_claim_of_path q) cs (c ∷ [])))

abbrev before : PathClaim → PathClaim → Bool
before x y = is_lt (claim_cmp x y)

first_is_apart : (cs : List PathClaim) (i : ℕ) (c : PathClaim) → slice_get cs i ≡ Some c → is_first_of_path cs i ≡ true → (j : ℕ) (y : PathClaim) → suc j ≡ i → slice_get cs j ≡ Some y → ties before c y ≡ false
first_is_apart cs zero c g s j y e h = absurd (omega arith)
first_is_apart cs (suc i) c g s j y e h =
    let is : j ≡ i = omega arith in
    let k : slice_get cs i ≡ Some y = ap (slice_get cs) (sym is) ∙ h in
    ties_path c y ∙ not-true (bytes_eq y.path c.path) (sym (λ n. differ_in_path (k n) (g n)) ∙ s)

pub first_more : (cs fs : List PathClaim) (i : ℕ) (c : PathClaim) → IsSorted claim_cmp cs → slice_get cs i ≡ Some c → is_first_of_path cs i ≡ true → HasFirstClaimOfEachPath (take i cs) fs → HasFirstClaimOfEachPath (take (i + 1) cs) (fs ++ c ∷ [])
unfolding claim_cmp
first_more cs fs i c up g s h =
    let below = front_below before (ranks claim_cmp claims_total) cs (rises_sorted before (ranks claim_cmp claims_total) cs up) i c g (first_is_apart cs i c g s) in
    let n : i + 1 ≡ suc i = omega arith in
    subst (λ k. HasFirstClaimOfEachPath (take k cs) (fs ++ c ∷ [])) (sym n)
    (subst (λ xs. HasFirstClaimOfEachPath xs (fs ++ c ∷ [])) (sym (take_at cs i c g))
    (record {
      rising = subst AreSortedDistinctTexts (sym (paths_more fs)) (Names.pairs_from_rises (paths fs ++ c.path ∷ []) (rises_more (paths fs) c.path (Names.rises_from_pairs (paths fs) h.rising) (less below)));
      each = more_found (take i cs) fs c h.each;
    }))
  where
    paths_more : (xs : List PathClaim) → paths (xs ++ c ∷ []) ≡ paths xs ++ c.path ∷ []
    paths_more [] = refl
    paths_more (x ∷ xs) = ap (λ r. x.path ∷ r) (paths_more xs)

    less : Each (λ y. before y c ≡ true) (take i cs) → (q : List ℕ) → Names.IsIn q (paths fs) → Names.order q c.path ≡ Less
    less below q here =
        let f = found_in fs q here in
        let d = found_is (is_claim_of_path q) (λ y. before y c ≡ true) (take i cs) f.0 below (sym (h.each q) ∙ f.1) in
        is_less (bytes_cmp q c.path) (subst (λ p. precedes p c.path ≡ true) ((bytes_decides f.0.path q).0 d.1) d.0)

pub not_more : (cs fs : List PathClaim) (i : ℕ) → i < length cs → is_first_of_path cs i ≡ false → HasFirstClaimOfEachPath (take i cs) fs → HasFirstClaimOfEachPath (take (i + 1) cs) fs
not_more cs fs zero l s h = absurd (true≢false s)
not_more cs fs (suc i) l s h = go (slice_get cs i) (slice_get cs (suc i)) refl refl
  where
    go : (a b : Option PathClaim) → slice_get cs i ≡ a → slice_get cs (suc i) ≡ b → HasFirstClaimOfEachPath (take (suc i + 1) cs) fs
    go None b ea eb = absurd (true≢false (sym (λ n. differ_in_path (ea n) (eb n)) ∙ s))
    go (Some d) None ea eb = absurd (true≢false (sym (λ n. differ_in_path (ea n) (eb n)) ∙ s))
    go (Some d) (Some c) ea eb =
        let same : bytes_eq d.path c.path ≡ true = not-false (bytes_eq d.path c.path) (sym (λ n. differ_in_path (ea n) (eb n)) ∙ s) in
        let n : suc i + 1 ≡ suc (suc i) = omega arith in
        subst (λ k. HasFirstClaimOfEachPath (take k cs) fs) (sym n)
        (subst (λ xs. HasFirstClaimOfEachPath xs fs) (sym (take_at cs (suc i) c eb)) (record { rising = h.rising; each = λ q. h.each q ∙ still d c ea same q }))
      where
        last_of : (xs : List PathClaim) (k : ℕ) (d : PathClaim) → slice_get xs k ≡ Some d → slice_get (take (suc k) xs) k ≡ Some d
        last_of [] k d g = absurd (no_some d g)
        last_of (x ∷ xs) zero d g = g
        last_of (x ∷ xs) (suc k) d g = last_of xs k d g

        by_found : (q : List ℕ) (o p : Option PathClaim) → ((t : PathClaim) × (o ≡ Some t)) → o ≡ or_found o p
        by_found q None p h = absurd (no_some h.0 h.1)
        by_found q (Some t) p h = refl

        nothing_more : (o : Option PathClaim) → o ≡ or_found o None
        nothing_more None = refl
        nothing_more (Some t) = refl

        still : (d c : PathClaim) → slice_get cs i ≡ Some d → bytes_eq d.path c.path ≡ true → (q : List ℕ) → find (is_claim_of_path q) (take (suc i) cs) ≡ find (is_claim_of_path q) (take (suc i) cs ++ c ∷ [])
        still d c ea same q = by_path (bytes_eq c.path q) refl ∙ sym (found_both (is_claim_of_path q) (take (suc i) cs) (c ∷ []))
          where
            by_path : (b : Bool) → bytes_eq c.path q ≡ b → find (is_claim_of_path q) (take (suc i) cs) ≡ or_found (find (is_claim_of_path q) (take (suc i) cs)) (cond b (Some c) None)
            by_path true e =
                let is : d.path ≡ q = (bytes_decides d.path c.path).0 same ∙ (bytes_decides c.path q).0 e in
                by_found q (find (is_claim_of_path q) (take (suc i) cs)) (Some c) (found_some (is_claim_of_path q) (take (suc i) cs) i d (last_of cs i d ea) ((bytes_decides d.path q).1 is))
            by_path false e = nothing_more (find (is_claim_of_path q) (take (suc i) cs))

-- of two neighbours in claims of distinct paths in byte order, the first one has the earlier path
neighbours_rise : (cs : List PathClaim) (i : ℕ) (d c : PathClaim) → Names.Rises (paths cs) → slice_get cs i ≡ Some d → slice_get cs (suc i) ≡ Some c → Names.order d.path c.path ≡ Less
neighbours_rise [] i d c up g k = absurd (no_some d g)
neighbours_rise (x ∷ []) zero d c up g k = absurd (no_some c k)
neighbours_rise (x ∷ y ∷ ys) zero d c up g k =
    let a : x ≡ d = ap (value_or x) g in
    let b : y ≡ c = ap (value_or y) k in
    subst (λ z. Names.order z.path c.path ≡ Less) a (subst (λ z. Names.order x.path z.path ≡ Less) b (up.0 y.path (inl refl)))
neighbours_rise (x ∷ xs) (suc i) d c up g k = neighbours_rise xs i d c up.1 g k

-- claims one of which is not the first one of its path are not the first ones of each path
pub repeats_a_path : (cs : List PathClaim) (i : ℕ) → is_first_of_path cs i ≡ false → HasFirstClaimOfEachPath cs cs → ⊥
repeats_a_path cs zero s h = true≢false s
repeats_a_path cs (suc i) s h = go (slice_get cs i) (slice_get cs (suc i)) refl refl
  where
    go : (a b : Option PathClaim) → slice_get cs i ≡ a → slice_get cs (suc i) ≡ b → ⊥
    go None b ea eb = true≢false (sym (λ n. differ_in_path (ea n) (eb n)) ∙ s)
    go (Some d) None ea eb = true≢false (sym (λ n. differ_in_path (ea n) (eb n)) ∙ s)
    go (Some d) (Some c) ea eb =
        let same : bytes_eq d.path c.path ≡ true = not-false (bytes_eq d.path c.path) (sym (λ n. differ_in_path (ea n) (eb n)) ∙ s) in
        let is : d.path ≡ c.path = (bytes_decides d.path c.path).0 same in
        Names.not_itself d.path (subst (λ p. Names.order d.path p ≡ Less) (sym is) (neighbours_rise cs i d c (Names.rises_from_pairs (paths cs) h.rising) ea eb))

pub firsts_whole : (cs fs : List PathClaim) (i : ℕ) → length cs ≤ i → HasFirstClaimOfEachPath (take i cs) fs → HasFirstClaimOfEachPath cs fs
firsts_whole cs fs i l h = subst (λ xs. HasFirstClaimOfEachPath xs fs) (take_whole cs i l) h

-- ---- over the program's claims

map_more : {X Y : Type 0} (f : X → Y) (xs : List X) (x : X) → map f (xs ++ x ∷ []) ≡ map f xs ++ f x ∷ []
map_more f [] x = refl
map_more f (y ∷ ys) x = ap (λ r. f y ∷ r) (map_more f ys x)

pub first_pushed : (xs fs gs : List Claim) (i : ℕ) (d : Claim) → IsSorted claim_cmp (map claim_seen xs) → i < length xs → is_first_of_path (map claim_seen xs) i ≡ true
    → gs ≡ fs ++ slice_index_or xs i d ∷ [] → HasFirstClaimOfEachPath (take i (map claim_seen xs)) (map claim_seen fs) → HasFirstClaimOfEachPath (take (i + 1) (map claim_seen xs)) (map claim_seen gs)
first_pushed xs fs gs i d up l s e h =
    subst (HasFirstClaimOfEachPath (take (i + 1) (map claim_seen xs))) (sym (ap (map claim_seen) e ∙ map_more claim_seen fs (slice_index_or xs i d)))
    (first_more (map claim_seen xs) (map claim_seen fs) i (claim_seen (slice_index_or xs i d)) up (seen_at claim_seen xs i d l) s h)

pub firsts_kept : (xs fs gs : List Claim) (i : ℕ) → i < length xs → is_first_of_path (map claim_seen xs) i ≡ false → gs ≡ fs
    → HasFirstClaimOfEachPath (take i (map claim_seen xs)) (map claim_seen fs) → HasFirstClaimOfEachPath (take (i + 1) (map claim_seen xs)) (map claim_seen gs)
firsts_kept xs fs gs i l s e h =
    let n : length (map claim_seen xs) ≡ length xs = map_len claim_seen xs in
    subst (λ l. HasFirstClaimOfEachPath (take (i + 1) (map claim_seen xs)) (map claim_seen l)) (sym e) (not_more (map claim_seen xs) (map claim_seen fs) i (omega (arith, n, l)) s h)

-- claims of which each is the first one of its path are the first ones of each path
pub own_first_more : (xs : List Claim) (i : ℕ) → IsSorted claim_cmp (map claim_seen xs) → i < length xs → is_first_of_path (map claim_seen xs) i ≡ true
    → HasFirstClaimOfEachPath (take i (map claim_seen xs)) (take i (map claim_seen xs)) → HasFirstClaimOfEachPath (take (i + 1) (map claim_seen xs)) (take (i + 1) (map claim_seen xs))
own_first_more xs i up l s h =
    let n : length (map claim_seen xs) ≡ length xs = map_len claim_seen xs in
    elim (slice_get_cases (map claim_seen xs) i).1 [ inl here ↦ more here.0 here.2 | inr past ↦ absurd (omega (arith, n, l, past.0)) ]
  where
    more : (c : PathClaim) → slice_get (map claim_seen xs) i ≡ Some c → HasFirstClaimOfEachPath (take (i + 1) (map claim_seen xs)) (take (i + 1) (map claim_seen xs))
    more c g =
        let n : i + 1 ≡ suc i = omega arith in
        subst (HasFirstClaimOfEachPath (take (i + 1) (map claim_seen xs))) (sym (ap (λ k. take k (map claim_seen xs)) n ∙ take_at (map claim_seen xs) i c g))
        (first_more (map claim_seen xs) (take i (map claim_seen xs)) i c up g s h)
