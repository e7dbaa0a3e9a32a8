-- The options of a need are those that may be chosen and meet it, best first.
use Rattle.std.proofs.Common.{◌≡◌, ◌⊎◌, inl, inr, ℕ, zero, suc, ◌+◌, ◌≤◌, ◌<◌, Bool, true, false, List, [], ◌∷◌, refl, sym, subst, ap, ◌∙◌, arith}
use Rattle.std.specs.Prelude.{Option, Some, None, slice_get, ◌&&◌}
use Rattle.std.specs.Option.{option_map_or, option_cmp}
use Rattle.std.specs.Cmp.{IsTotalOrder, ranks}
use Rattle.std.specs.Ordering.{is_lt, nat_cmp, ordering_reverse, ordering_then, MatchOrdering}
use Rattle.std.specs.declared.cmp.Ordering.{Ordering}
use Rattle.std.specs.declared.cmp.Ordering.TheVariants.{Less, Equal, Greater}
use Rattle.std.proofs.lemmas.Bool.{cases_Bool}
use Rattle.base_core.proofs.Orderings.{is_less}
use Rattle.candidate_core.specs.Candidates.{Candidate, Need, is_eligible, meets_dependency_or_has_package_name}
use Rattle.candidate_core.specs.Rank.{SelectionProblem, candidate_at, candidate_cmp, is_better, is_eligible_at, meets_at, rank_cmp}
use Rattle.candidate_core.specs.Options.{AreDistinct, IsIn, IsStrictlySortedBestFirst, is_eligible_for_need, options_for, places_passing_counted_from, insert_by_rank, rank_order_of}

-- ---- what is put among ranked ones

put_in : (better : ℕ → ℕ → Bool) (c o : ℕ) (ds : List ℕ) → IsIn o (insert_by_rank better c ds) → IsIn o (c ∷ ds)
put_in better c o [] h = h
put_in better c o (d ∷ ds) h = elim (cases_Bool (better c d)) [
  | inl e ↦ rw e at h
  | inr e ↦ elim (rw e at h) [
    | inl q ↦ inr (inl q)
    | inr r ↦ elim (put_in better c o ds r) [ inl q ↦ inl q | inr k ↦ inr (inr k) ]
  ]
]

in_put : (better : ℕ → ℕ → Bool) (c o : ℕ) (ds : List ℕ) → IsIn o (c ∷ ds) → IsIn o (insert_by_rank better c ds)
in_put better c o [] h = h
in_put better c o (d ∷ ds) h = elim (cases_Bool (better c d)) [
  | inl e ↦ rw e h
  | inr e ↦ rw e (elim h [
    | inl q ↦ inr (in_put better c o ds (inl q))
    | inr r ↦ elim r [ inl q ↦ inl q | inr k ↦ inr (in_put better c o ds (inr k)) ]
  ])
]

pub ranked_in : (better : ℕ → ℕ → Bool) (o : ℕ) (cs : List ℕ) → IsIn o (rank_order_of better cs) → IsIn o cs
ranked_in better o [] h = h
ranked_in better o (c ∷ cs) h = elim (put_in better c o (rank_order_of better cs) h) [ inl q ↦ inl q | inr r ↦ inr (ranked_in better o cs r) ]

pub in_ranked : (better : ℕ → ℕ → Bool) (o : ℕ) (cs : List ℕ) → IsIn o cs → IsIn o (rank_order_of better cs)
in_ranked better o [] h = h
in_ranked better o (c ∷ cs) h = in_put better c o (rank_order_of better cs) (elim h [ inl q ↦ inl q | inr r ↦ inr (in_ranked better o cs r) ])

module _ (better : ℕ → ℕ → Bool) (chain : (a b c : ℕ) → better a b ≡ true → better b c ≡ true → better a c ≡ true) (one_of : (a b : ℕ) → (a ≡ b → ⊥) → (better a b ≡ true) ⊎ (better b a ≡ true)) where
  put_keeps : (c : ℕ) (ds : List ℕ) → (IsIn c ds → ⊥) → IsStrictlySortedBestFirst better ds → IsStrictlySortedBestFirst better (insert_by_rank better c ds)
  put_keeps c [] out r = ((λ d h. absurd h), tt)
  put_keeps c (d ∷ ds) out r = elim (cases_Bool (better c d)) [
    | inl e ↦ rw e ((λ o h. elim h [ inl q ↦ subst (λ (z : ℕ). better c z ≡ true) (sym q) e | inr k ↦ chain c d o e (r.0 o k) ]), r)
    | inr e ↦
        let back : better d c ≡ true = elim (one_of d c (λ q. out (inl (sym q)))) [ inl g ↦ g | inr g ↦ let bad : false ≡ true = sym e ∙ g in absurd (cc) ] in
        rw e ((λ o h. elim (put_in better c o ds h) [ inl q ↦ subst (λ (z : ℕ). better d z ≡ true) (sym q) back | inr k ↦ r.0 o k ]), put_keeps c ds (λ h. out (inr h)) r.1)
  ]

  pub ranked_keeps : (cs : List ℕ) → AreDistinct cs → IsStrictlySortedBestFirst better (rank_order_of better cs)
  ranked_keeps [] rising = tt
  ranked_keeps (c ∷ cs) rising = put_keeps c (rank_order_of better cs) (λ h. rising.0 (ranked_in better c cs h)) (ranked_keeps cs rising.1)

-- ---- places

pub places_above : (n : ℕ) (test : Candidate → Bool) (cs : List Candidate) (o : ℕ) → IsIn o (places_passing_counted_from n test cs) → n ≤ o
places_above n test [] o h = absurd h
places_above n test (c ∷ cs) o h = elim (cases_Bool (test c)) [
  | inl e ↦ elim (rw e at h) [ inl q ↦ omega arith | inr k ↦ let r = places_above (suc n) test cs o k in omega arith ]
  | inr e ↦ let r = places_above (suc n) test cs o (rw e at h) in omega arith
]

pub places_apart : (n : ℕ) (test : Candidate → Bool) (cs : List Candidate) → AreDistinct (places_passing_counted_from n test cs)
places_apart n test [] = tt
places_apart n test (c ∷ cs) = elim (cases_Bool (test c)) [
  | inl e ↦ rw e ((λ h. let r = places_above (suc n) test cs n h in absurd (omega arith)), places_apart (suc n) test cs)
  | inr e ↦ rw e (places_apart (suc n) test cs)
]

pub in_places : (n : ℕ) (test : Candidate → Bool) (cs : List Candidate) (k : ℕ) → option_map_or test (slice_get cs k) false ≡ true → IsIn (n + k) (places_passing_counted_from n test cs)
in_places n test [] zero h = absurd (cc)
in_places n test [] (suc k) h = absurd (cc)
in_places n test (c ∷ cs) zero h =
    let z : n + 0 ≡ n = omega arith in
    subst (λ (o : ℕ). IsIn o (places_passing_counted_from n test (c ∷ cs))) (sym z) (rw h (inl refl))
in_places n test (c ∷ cs) (suc k) h =
    let z : n + suc k ≡ suc n + k = omega arith in
    subst (λ (o : ℕ). IsIn o (places_passing_counted_from n test (c ∷ cs))) (sym z) (elim (cases_Bool (test c)) [
      | inl e ↦ rw e (inr (in_places (suc n) test cs k h))
      | inr e ↦ rw e (in_places (suc n) test cs k h)
    ])

pub places_in : (n : ℕ) (test : Candidate → Bool) (cs : List Candidate) (o : ℕ) → IsIn o (places_passing_counted_from n test cs) → (k : ℕ) × (o ≡ n + k) × (option_map_or test (slice_get cs k) false ≡ true)
places_in n test [] o h = absurd h
places_in n test (c ∷ cs) o h = elim (cases_Bool (test c)) [
  | inl e ↦ elim (rw e at h) [
    | inl q ↦ (0, omega arith, e)
    | inr k ↦ let r = places_in (suc n) test cs o k in (suc r.0, omega arith, r.2)
  ]
  | inr e ↦ let r = places_in (suc n) test cs o (rw e at h) in (suc r.0, omega arith, r.2)
]

both_at : (p q : Candidate → Bool) (o : Option Candidate) → option_map_or (λ c. p c && q c) o false ≡ true → (option_map_or p o false ≡ true) × (option_map_or q o false ≡ true)
both_at p q None h = absurd (cc)
both_at p q (Some c) h = elim (cases_Bool (p c)) [
  | inl e ↦ (e, rw e at h)
  | inr e ↦ let bad : false ≡ true = rw e at h in absurd (cc)
]

at_both : (p q : Candidate → Bool) (o : Option Candidate) → option_map_or p o false ≡ true → option_map_or q o false ≡ true → option_map_or (λ c. p c && q c) o false ≡ true
at_both p q None h g = h
at_both p q (Some c) h g = rw h g

-- ---- the rank

last_decides : (a b : ℕ) (o : Ordering) → ordering_then o (nat_cmp a b) ≡ Equal → nat_cmp a b ≡ Equal
last_decides a b Less h = absurd (cc)
last_decides a b Equal h = h
last_decides a b Greater h = absurd (cc)

pub same_place : (pool : SelectionProblem) (need : Need) (a b : ℕ) → rank_cmp pool need a b ≡ Equal → a ≡ b
unfolding rank_cmp
same_place pool need a b h = equal_is a b (nat_cmp a b) refl (last_decides a b (option_cmp (candidate_cmp pool need) (candidate_at pool a) (candidate_at pool b)) h)
  where
    equal_is : (a b : ℕ) (o : Ordering) → o ≡ nat_cmp a b → nat_cmp a b ≡ Equal → a ≡ b
    equal_is a b o e h = let r : MatchOrdering Equal (a < b) (a ≡ b) (b < a) = subst (λ (z : Ordering). MatchOrdering z (a < b) (a ≡ b) (b < a)) h (ranks a b) in r

module _ (pool : SelectionProblem) (need : Need) (total : IsTotalOrder (rank_cmp pool need)) where
  pub chain : (a b c : ℕ) → is_better pool need a b ≡ true → is_better pool need b c ≡ true → is_better pool need a c ≡ true
  chain a b c h g = ap is_lt (total.trans a b c (is_less (rank_cmp pool need a b) h) (is_less (rank_cmp pool need b c) g))

  pub one_of : (a b : ℕ) → (a ≡ b → ⊥) → (is_better pool need a b ≡ true) ⊎ (is_better pool need b a ≡ true)
  one_of a b out = by (rank_cmp pool need a b) refl
    where
      by : (o : Ordering) → o ≡ rank_cmp pool need a b → (is_better pool need a b ≡ true) ⊎ (is_better pool need b a ≡ true)
      by Less e = inl (ap is_lt (sym e))
      by Equal e = absurd (out (same_place pool need a b (sym e)))
      by Greater e = inr (ap is_lt (total.antisymm b a ∙ ap ordering_reverse (sym e)))

  pub options_ranked : IsStrictlySortedBestFirst (is_better pool need) (options_for pool need)
  unfolding options_for
  options_ranked =
      let places = places_passing_counted_from 0 (is_eligible_for_need pool need) pool.candidates in
      ranked_keeps (is_better pool need) chain one_of places (places_apart 0 (is_eligible_for_need pool need) pool.candidates)

pub options_those : (pool : SelectionProblem) (need : Need) (c : ℕ) → IsIn c (options_for pool need) → (is_eligible_at pool c ≡ true) × (meets_at pool c need ≡ true)
unfolding options_for
options_those pool need c h =
    let places = places_passing_counted_from 0 (is_eligible_for_need pool need) pool.candidates in
    let r = places_in 0 (is_eligible_for_need pool need) pool.candidates c (ranked_in (is_better pool need) c places h) in
    let z : r.0 ≡ c = omega (arith, r.1) in
    both_at (is_eligible pool.world) (meets_dependency_or_has_package_name need) (slice_get pool.candidates c) (subst (λ (k : ℕ). option_map_or (is_eligible_for_need pool need) (slice_get pool.candidates k) false ≡ true) z r.2)

pub options_each : (pool : SelectionProblem) (need : Need) (c : ℕ) → is_eligible_at pool c ≡ true → meets_at pool c need ≡ true → IsIn c (options_for pool need)
unfolding options_for
options_each pool need c eligible meets =
    let places = places_passing_counted_from 0 (is_eligible_for_need pool need) pool.candidates in
    let z : 0 + c ≡ c = omega arith in
    in_ranked (is_better pool need) c places (subst (λ (k : ℕ). IsIn k places) z (in_places 0 (is_eligible_for_need pool need) pool.candidates c (at_both (is_eligible pool.world) (meets_dependency_or_has_package_name need) (slice_get pool.candidates c) eligible meets)))
