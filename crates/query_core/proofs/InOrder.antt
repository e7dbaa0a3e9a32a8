-- The order of what is selected, and of versions that are printed once.
use Rattle.std.proofs.Common.{◌≡◌, ◌⊎◌, inl, inr, ℕ, ◌+◌, ◌<◌, Bool, true, false, List, [], ◌∷◌, ◌++◌, append-nil, map, refl, sym, ap, subst, ◌∙◌, arith}
use Rattle.std.specs.Prelude.{Option, Some, None, slice_get}
use Rattle.std.specs.Option.{option_cmp, option_map_or}
use Rattle.std.specs.Cmp.{IsTotalOrder, tied_itself}
use Rattle.std.specs.Cmp.Lexicographic.{nat_list_cmp_total, options_total}
use Rattle.std.specs.List.{cons_option, filter_map, flat_map, list_any}
use Rattle.std.specs.Ordering.{is_gt, is_lt, nat_cmp, ordering_reverse, ordering_then, then_cmp}
use Rattle.std.specs.declared.cmp.Ordering.{Ordering}
use Rattle.std.specs.declared.cmp.Ordering.TheVariants.{Less, Equal, Greater}
use Rattle.std.proofs.lemmas.Bool.Decides.{nat_tests}
use Rattle.std.proofs.lemmas.List.Sorted.{IsPermutation-sym}
use Rattle.std.proofs.lemmas.Slice.Eq.{bytes_eq-Decides}
use Rattle.std.proofs.lemmas.Bool.{cases_Bool}
use Rattle.pool_core.proofs.SamePackage.{same_version}
use Rattle.version_core.specs.Order.{version_cmp}
use Rattle.base_core.specs.Sorted.{sorted_by, with_element_inserted}
use Rattle.base_core.proofs.Sorting.{Rises, ranks, rises_in_order, sorted_same}
use Rattle.pool_core.specs.candidate_core.Candidates.{Candidate, is_same_version}
use Rattle.pool_core.specs.candidate_core.Options.{AreDistinct, IsIn, places_passing_counted_from}
use Rattle.pool_core.specs.candidate_core.Rank.{bytes_cmp, greater_version_first_cmp}
use Rattle.pool_core.proofs.candidate_core.OptionLists.{in_places, places_apart, places_in}
use Rattle.dep_core.specs.Repositories.{Repository}
use Rattle.pool_core.proofs.option_ranks.MovedMembers.{moved_member}
use Rattle.pool_core.proofs.option_ranks.RankOrder.{versions_back}
use Rattle.report_core.specs.QueryReports.{policy_heading}
use Rattle.query_core.specs.Asked.{AreStrictlyInOrderBy, HasCandidateWithOwnNameAndEqualVersion}
use Rattle.query_core.specs.Order.{candidate_places_cmp, sorted_candidates_passing, sorted_places_passing}
use Rattle.query_core.specs.Policy.{has_own_name, name_policy, version_policy, sorted_distinct_versions_of_name, versions_except_those_repeated_later}
use Rattle.query_core.proofs.AskedFor.{any_in}
use Rattle.query_core.proofs.Gathered.{each_in}
use Rattle.query_core.proofs.QueryOrder.{last_decides, one_place, query_total, texts_same}
use Rattle.query_core.proofs.Runs.{same_text}

-- ---- key by key

cmp_is : (cs : List Candidate) (a b : ℕ) (x y : Candidate) → slice_get cs a ≡ Some x → slice_get cs b ≡ Some y
    → candidate_places_cmp cs a b ≡ ordering_then (ordering_then (bytes_cmp x.name y.name) (ordering_then (greater_version_first_cmp x.version y.version) (option_cmp bytes_cmp x.version y.version))) (nat_cmp a b)
cmp_is cs a b x y h g = rw (h, g) refl

pub by_name : (cs : List Candidate) (a b : ℕ) (x y : Candidate) → slice_get cs a ≡ Some x → slice_get cs b ≡ Some y → bytes_cmp x.name y.name ≡ Less → candidate_places_cmp cs a b ≡ Less
by_name cs a b x y h g e = cmp_is cs a b x y h g ∙ rw e refl

same_names : (x y : Candidate) → x.name ≡ y.name → bytes_cmp x.name y.name ≡ Equal
same_names x y e = ap (bytes_cmp x.name) (sym e) ∙ tied_itself nat_list_cmp_total x.name

module _ (versions : IsTotalOrder version_cmp) where
  pub by_version : (cs : List Candidate) (a b : ℕ) (x y : Candidate) (v w : List ℕ) → slice_get cs a ≡ Some x → slice_get cs b ≡ Some y → x.name ≡ y.name → x.version ≡ Some v → y.version ≡ Some w → version_cmp v w ≡ Greater → candidate_places_cmp cs a b ≡ Less
  by_version cs a b x y v w h g n p q e =
      let less : version_cmp w v ≡ Less = versions.antisymm w v ∙ ap ordering_reverse e in
      cmp_is cs a b x y h g ∙ rw (same_names x y n, p, q, less) refl

  pub by_text : (cs : List Candidate) (a b : ℕ) (x y : Candidate) (v w : List ℕ) → slice_get cs a ≡ Some x → slice_get cs b ≡ Some y → x.name ≡ y.name → x.version ≡ Some v → y.version ≡ Some w → version_cmp v w ≡ Equal → bytes_cmp v w ≡ Less → candidate_places_cmp cs a b ≡ Less
  by_text cs a b x y v w h g n p q e f =
      let equal : version_cmp w v ≡ Equal = versions.antisymm w v ∙ ap ordering_reverse e in
      cmp_is cs a b x y h g ∙ rw (same_names x y n, p, q, equal, f) refl

  pub by_place : (cs : List Candidate) (a b : ℕ) (x y : Candidate) → slice_get cs a ≡ Some x → slice_get cs b ≡ Some y → x.name ≡ y.name → x.version ≡ y.version → a < b → candidate_places_cmp cs a b ≡ Less
  by_place cs a b x y h g n v low =
      let one : greater_version_first_cmp x.version y.version ≡ Equal = ap (greater_version_first_cmp x.version) (sym v) ∙ tied_itself (versions_back versions) x.version in
      let two : option_cmp bytes_cmp x.version y.version ≡ Equal = ap (option_cmp bytes_cmp x.version) (sym v) ∙ tied_itself (options_total nat_list_cmp_total) x.version in
      let less : nat_cmp a b ≡ Less = less_of a b low in
      cmp_is cs a b x y h g ∙ rw (same_names x y n, one, two, less) refl
    where
      less_of : (m n : ℕ) → m < n → nat_cmp m n ≡ Less
      less_of m n h = grind (arith, nat_tests)

-- ---- what is selected

pub passes : (test : Candidate → Bool) (cs : List Candidate) (place : ℕ) → IsIn place (sorted_places_passing test cs) → option_map_or test (slice_get cs place) false ≡ true
passes test cs place h =
    let unsorted : List ℕ = places_passing_counted_from 0 test cs in
    let found = places_in 0 test cs place (moved_member (sorted_by (candidate_places_cmp cs) unsorted) unsorted place (IsPermutation-sym unsorted (sorted_by (candidate_places_cmp cs) unsorted) (sorted_same (candidate_places_cmp cs) unsorted)) h) in
    let z : found.0 ≡ place = omega (arith, found.1) in
    subst (λ (k : ℕ). option_map_or test (slice_get cs k) false ≡ true) z found.2

pub selects : (test : Candidate → Bool) (cs : List Candidate) (place : ℕ) → option_map_or test (slice_get cs place) false ≡ true → IsIn place (sorted_places_passing test cs)
selects test cs place h =
    let unsorted : List ℕ = places_passing_counted_from 0 test cs in
    let z : 0 + place ≡ place = omega arith in
    moved_member unsorted (sorted_by (candidate_places_cmp cs) unsorted) place (sorted_same (candidate_places_cmp cs) unsorted) (subst (λ (k : ℕ). IsIn k unsorted) z (in_places 0 test cs place h))

in_placed : (cmp : ℕ → ℕ → Ordering) (x z : ℕ) (ys : List ℕ) → IsIn z (with_element_inserted cmp x ys) → (z ≡ x) ⊎ IsIn z ys
in_placed cmp x z [] (inl e) = inl e
in_placed cmp x z [] (inr h) = absurd h
in_placed cmp x z (y ∷ ys) h = elim (cases_Bool (is_gt (cmp x y))) [
  | inl g ↦ elim (rw g at h) [
    | inl e ↦ inr (inl e)
    | inr m ↦ elim (in_placed cmp x z ys m) [ inl e ↦ inl e | inr k ↦ inr (inr k) ]
  ]
  | inr g ↦ elim (rw g at h) [ inl e ↦ inl e | inr m ↦ inr m ]
]

placed_distinct : (cmp : ℕ → ℕ → Ordering) (x : ℕ) (ys : List ℕ) → (IsIn x ys → ⊥) → AreDistinct ys → AreDistinct (with_element_inserted cmp x ys)
placed_distinct cmp x [] out d = ((λ h. absurd h), tt)
placed_distinct cmp x (y ∷ ys) out d = elim (cases_Bool (is_gt (cmp x y))) [
  | inl g ↦ rw g ((λ h. elim (in_placed cmp x y ys h) [ inl e ↦ out (inl (sym e)) | inr k ↦ d.0 k ]), placed_distinct cmp x ys (λ h. out (inr h)) d.1)
  | inr g ↦ rw g (out, d)
]

in_sorted : (cmp : ℕ → ℕ → Ordering) (z : ℕ) (xs : List ℕ) → IsIn z (sorted_by cmp xs) → IsIn z xs
in_sorted cmp z [] h = h
in_sorted cmp z (x ∷ xs) h = elim (in_placed cmp x z (sorted_by cmp xs) h) [ inl e ↦ inl e | inr k ↦ inr (in_sorted cmp z xs k) ]

sorted_distinct : (cmp : ℕ → ℕ → Ordering) (xs : List ℕ) → AreDistinct xs → AreDistinct (sorted_by cmp xs)
sorted_distinct cmp [] d = tt
sorted_distinct cmp (x ∷ xs) d = placed_distinct cmp x (sorted_by cmp xs) (λ h. d.0 (in_sorted cmp x xs h)) (sorted_distinct cmp xs d.1)

module _ (cmp : ℕ → ℕ → Ordering) (total : IsTotalOrder cmp) (one : (a b : ℕ) → cmp a b ≡ Equal → a ≡ b) where
  first_of : (x y : ℕ) (o : Ordering) → o ≡ cmp x y → is_lt (cmp y x) ≡ false → (x ≡ y → ⊥) → cmp x y ≡ Less
  first_of x y Less e h out = sym e
  first_of x y Equal e h out = absurd (out (one x y (sym e)))
  first_of x y Greater e h out =
      let back : cmp y x ≡ Less = total.antisymm y x ∙ ap ordering_reverse (sym e) in
      let bad : true ≡ false = sym (ap is_lt back) ∙ h in
      absurd (cc)

  in_order : (xs : List ℕ) → Rises (λ a b. is_lt (cmp a b)) (ranks cmp total) xs → AreDistinct xs → AreStrictlyInOrderBy cmp xs
  in_order [] up d = tt
  in_order (x ∷ xs) up d = (
    (λ y h. first_of x y (cmp x y) refl (each_in (λ (z : ℕ). is_lt (cmp z x) ≡ false) xs y up.0 h) (λ e. d.0 (subst (λ (z : ℕ). IsIn z xs) (sym e) h))),
    in_order xs up.1 d.1,
  )

pub selected_in_order : IsTotalOrder version_cmp → (test : Candidate → Bool) (cs : List Candidate) → AreStrictlyInOrderBy (candidate_places_cmp cs) (sorted_places_passing test cs)
selected_in_order versions test cs =
    let total = query_total versions cs in
    in_order (candidate_places_cmp cs) total (one_place cs) (sorted_places_passing test cs) (rises_in_order (candidate_places_cmp cs) total (places_passing_counted_from 0 test cs)) (sorted_distinct (candidate_places_cmp cs) (places_passing_counted_from 0 test cs) (places_apart 0 test cs))

-- ---- versions

once_in : (v : Option (List ℕ)) (vs : List (Option (List ℕ))) → IsIn v (versions_except_those_repeated_later vs) → IsIn v vs
once_in v [] h = h
once_in v (w ∷ vs) h = elim (cases_Bool (list_any (is_same_version w) vs)) [
  | inl e ↦ inr (once_in v vs (rw e at h))
  | inr e ↦ elim (rw e at h) [ inl s ↦ inl s | inr m ↦ inr (once_in v vs m) ]
]

same_in : (v : Option (List ℕ)) (vs : List (Option (List ℕ))) → list_any (is_same_version v) vs ≡ true → IsIn v vs
same_in v [] h = absurd (cc)
same_in v (w ∷ vs) h = elim (cases_Bool (is_same_version v w)) [ inl e ↦ inl (same_version v w e) | inr e ↦ inr (same_in v vs (rw e at h)) ]

in_once : (v : Option (List ℕ)) (vs : List (Option (List ℕ))) → IsIn v vs → IsIn v (versions_except_those_repeated_later vs)
in_once v [] h = h
in_once v (w ∷ vs) (inl s) = elim (cases_Bool (list_any (is_same_version w) vs)) [
  | inl e ↦ rw e (in_once v vs (subst (λ (x : Option (List ℕ)). IsIn x vs) (sym s) (same_in w vs e)))
  | inr e ↦ rw e (inl s)
]
in_once v (w ∷ vs) (inr m) = elim (cases_Bool (list_any (is_same_version w) vs)) [
  | inl e ↦ rw e (in_once v vs m)
  | inr e ↦ rw e (inr (in_once v vs m))
]

found_next : (cs : List Candidate) (v : Option (List ℕ)) (p : ℕ) (places : List ℕ) (o : Option Candidate) → slice_get cs p ≡ o
    → (IsIn v (map (λ (c : Candidate). c.version) (filter_map (slice_get cs) places)) → (q : ℕ) × ((c : Candidate) × (IsIn q places × ((slice_get cs q ≡ Some c) × (c.version ≡ v)))))
    → IsIn v (map (λ (c : Candidate). c.version) (cons_option o (filter_map (slice_get cs) places))) → (q : ℕ) × ((c : Candidate) × (IsIn q (p ∷ places) × ((slice_get cs q ≡ Some c) × (c.version ≡ v))))
found_next cs v p places None e again m = let r = again m in (r.0, (r.1.0, (inr r.1.1.0, r.1.1.1)))
found_next cs v p places (Some c) e again (inl s) = (p, (c, (inl refl, (e, sym s))))
found_next cs v p places (Some c) e again (inr m) = let r = again m in (r.0, (r.1.0, (inr r.1.1.0, r.1.1.1)))

-- where a candidate that was found is
found_place : (cs : List Candidate) (v : Option (List ℕ)) (places : List ℕ) → IsIn v (map (λ (c : Candidate). c.version) (filter_map (slice_get cs) places)) → (p : ℕ) × ((c : Candidate) × (IsIn p places × ((slice_get cs p ≡ Some c) × (c.version ≡ v))))
found_place cs v [] h = absurd h
found_place cs v (p ∷ places) h = found_next cs v p places (slice_get cs p) refl (λ m. found_place cs v places m) h

place_found : (cs : List Candidate) (p : ℕ) (c : Candidate) (places : List ℕ) → IsIn p places → slice_get cs p ≡ Some c → IsIn c.version (map (λ (d : Candidate). d.version) (filter_map (slice_get cs) places))
place_found cs p c [] h e = absurd h
place_found cs p c (q ∷ places) (inl s) e = rw (subst (λ (k : ℕ). slice_get cs k ≡ Some c) s e) (inl refl)
place_found cs p c (q ∷ places) (inr m) e = later (slice_get cs q) (place_found cs p c places m e)
  where
    later : (o : Option Candidate) → IsIn c.version (map (λ (d : Candidate). d.version) (filter_map (slice_get cs) places)) → IsIn c.version (map (λ (d : Candidate). d.version) (cons_option o (filter_map (slice_get cs) places)))
    later None k = k
    later (Some d) k = inr k

own_name_is : (cs : List Candidate) (name : List ℕ) (place : ℕ) (c : Candidate) → slice_get cs place ≡ Some c → option_map_or (has_own_name name) (slice_get cs place) false ≡ true → c.name ≡ name
own_name_is cs name place c e h = sym ((bytes_eq-Decides name c.name).0 (ap (λ (o : Option Candidate). option_map_or (has_own_name name) o false) (sym e) ∙ h))

pub versions_those : (cs : List Candidate) (name : List ℕ) (version : Option (List ℕ)) → IsIn version (sorted_distinct_versions_of_name cs name) → HasCandidateWithOwnNameAndEqualVersion cs name version
versions_those cs name version h =
    let places : List ℕ = sorted_places_passing (has_own_name name) cs in
    let found = found_place cs version places (once_in version (map (λ (c : Candidate). c.version) (sorted_candidates_passing (has_own_name name) cs)) h) in
    record {
      place = found.0;
      candidate = found.1.0;
      here = found.1.1.1.0;
      name_is = own_name_is cs name found.0 found.1.0 found.1.1.1.0 (passes (has_own_name name) cs found.0 found.1.1.0);
      version_is = found.1.1.1.1;
    }

pub versions_each : (cs : List Candidate) (name : List ℕ) (version : Option (List ℕ)) → HasCandidateWithOwnNameAndEqualVersion cs name version → IsIn version (sorted_distinct_versions_of_name cs name)
versions_each cs name version is =
    let own : has_own_name name is.candidate ≡ true = (bytes_eq-Decides name is.candidate.name).1 (sym is.name_is) in
    let test : option_map_or (has_own_name name) (slice_get cs is.place) false ≡ true = ap (λ (o : Option Candidate). option_map_or (has_own_name name) o false) is.here ∙ own in
    let there = place_found cs is.place is.candidate (sorted_places_passing (has_own_name name) cs) (selects (has_own_name name) cs is.place test) is.here in
    subst (λ (v : Option (List ℕ)). IsIn v (sorted_distinct_versions_of_name cs name)) is.version_is (in_once is.candidate.version (map (λ (c : Candidate). c.version) (sorted_candidates_passing (has_own_name name) cs)) there)

abbrev version_text_cmp : Option (List ℕ) → Option (List ℕ) → Ordering
version_text_cmp = then_cmp greater_version_first_cmp (option_cmp bytes_cmp)

-- no version comes before one that it is listed after, but where both are one
abbrev NeverBefore : List (Option (List ℕ)) → Type 0
NeverBefore [] = Unit {0}
NeverBefore (v ∷ vs) = ((w : Option (List ℕ)) → IsIn w vs → (version_text_cmp v w ≡ Less) ⊎ (v ≡ w)) × NeverBefore vs

once_in_order : (vs : List (Option (List ℕ))) → NeverBefore vs → AreStrictlyInOrderBy version_text_cmp (versions_except_those_repeated_later vs)
once_in_order [] h = tt
once_in_order (v ∷ vs) h = elim (cases_Bool (list_any (is_same_version v) vs)) [
  | inl e ↦ rw e (once_in_order vs h.1)
  | inr e ↦ rw e (
    (λ w m. elim (h.0 w (once_in w vs m)) [
      | inl less ↦ less
      | inr s ↦
          let again : list_any (is_same_version v) vs ≡ true = any_in (is_same_version v) vs w (once_in w vs m) (subst (λ (x : Option (List ℕ)). is_same_version v x ≡ true) s (same_text v)) in
          let bad : true ≡ false = sym again ∙ e in
          absurd (cc)
    ]),
    once_in_order vs h.1,
  )
]

module _ (versions : IsTotalOrder version_cmp) (cs : List Candidate) (name : List ℕ) where
  less_or_same : (n r : Ordering) (v w : Option (List ℕ)) → n ≡ Equal → ordering_then (ordering_then n (version_text_cmp v w)) r ≡ Less → (version_text_cmp v w ≡ Less) ⊎ (v ≡ w)
  less_or_same n r v w e h = by (version_text_cmp v w) refl
    where
      by : (o : Ordering) → o ≡ version_text_cmp v w → (version_text_cmp v w ≡ Less) ⊎ (v ≡ w)
      by Less f = inl (sym f)
      by Equal f = inr (texts_same v w (last_decides (greater_version_first_cmp v w) (option_cmp bytes_cmp v w) (sym f)))
      by Greater f = let bad : Greater ≡ Less = rw (e, sym f) at h in absurd (cc)

  never_before : (places : List ℕ) → AreStrictlyInOrderBy (candidate_places_cmp cs) places → ((p : ℕ) (c : Candidate) → IsIn p places → slice_get cs p ≡ Some c → c.name ≡ name) → NeverBefore (map (λ (c : Candidate). c.version) (filter_map (slice_get cs) places))
  never_before [] up own = tt
  never_before (p ∷ places) up own = next (slice_get cs p) refl (never_before places up.1 (λ q c m e. own q c (inr m) e))
    where
      next : (o : Option Candidate) → slice_get cs p ≡ o → NeverBefore (map (λ (c : Candidate). c.version) (filter_map (slice_get cs) places)) → NeverBefore (map (λ (c : Candidate). c.version) (cons_option o (filter_map (slice_get cs) places)))
      next None e rest = rest
      next (Some c) e rest = (
        (λ w m.
            let found = found_place cs w places m in
            let d : Candidate = found.1.0 in
            let names : c.name ≡ d.name = own p c (inl refl) e ∙ sym (own found.0 d (inr found.1.1.0) found.1.1.1.0) in
            let less = sym (cmp_is cs p found.0 c d e found.1.1.1.0) ∙ up.0 found.0 found.1.1.0 in
            elim (less_or_same (bytes_cmp c.name d.name) (nat_cmp p found.0) c.version d.version (same_names c d names) less) [
              | inl l ↦ inl (ap (version_text_cmp c.version) (sym found.1.1.1.1) ∙ l)
              | inr s ↦ inr (s ∙ found.1.1.1.1)
            ]),
        rest,
      )

  pub versions_in_order : AreStrictlyInOrderBy version_text_cmp (sorted_distinct_versions_of_name cs name)
  versions_in_order =
      let places : List ℕ = sorted_places_passing (has_own_name name) cs in
      once_in_order (map (λ (c : Candidate). c.version) (sorted_candidates_passing (has_own_name name) cs))
      (never_before places (selected_in_order versions (has_own_name name) cs) (λ p c m e. own_name_is cs name p c e (passes (has_own_name name) cs p m)))

nothing_printed : (candidates : List Candidate) (repositories : List Repository) (name : List ℕ) (vs : List (Option (List ℕ))) → ((v : Option (List ℕ)) → IsIn v vs → ⊥) → policy_heading name ++ flat_map (version_policy candidates repositories name) vs ≡ policy_heading name
nothing_printed candidates repositories name [] out = append-nil (policy_heading name)
nothing_printed candidates repositories name (v ∷ vs) out = absurd (out v (inl refl))

pub unknown_name : (cs : List Candidate) (repositories : List Repository) (name : List ℕ) → ((version : Option (List ℕ)) → HasCandidateWithOwnNameAndEqualVersion cs name version → ⊥) → name_policy cs repositories name ≡ policy_heading name
unknown_name cs repositories name none = nothing_printed cs repositories name (sorted_distinct_versions_of_name cs name) (λ v m. none v (versions_those cs name v m))
