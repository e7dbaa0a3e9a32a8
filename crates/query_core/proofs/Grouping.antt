-- The candidates of a name in the order of queries: those with one version are side by side, and are just those that have it.
use Rattle.std.proofs.Common.{◌≡◌, inl, inr, All, ℕ, suc, ◌+◌, ◌-◌, ◌<◌, ◌≤◌, Bool, true, false, List, [], ◌∷◌, length, drop, take, map, get_or, refl, sym, ap, subst, ◌∙◌, arith}
use Rattle.std.specs.Prelude.{Option, Some, nat_lt, slice_get, ◌&&◌}
use Rattle.std.specs.Option.{option_cmp, option_map_or}
use Rattle.std.specs.List.{cons_option, filter, filter_map, list_any}
use Rattle.std.specs.Cmp.{IsTotalOrder, tied_itself}
use Rattle.std.specs.Ordering.{is_lt, nat_cmp, ordering_reverse, ordering_then}
use Rattle.std.specs.declared.cmp.Ordering.{Ordering}
use Rattle.std.specs.declared.cmp.Ordering.TheVariants.{Less, Equal, Greater}
use Rattle.std.specs.List.Sorted.{IsSorted}
use Rattle.std.proofs.lemmas.List.Sorted.{ranks_by, sorted_far}
use Rattle.std.proofs.lemmas.Slice.Eq.{bytes_eq-Decides}
use Rattle.version_core.specs.Order.{version_cmp}
use Rattle.base_core.specs.Sorted.{sorted_by}
use Rattle.base_core.proofs.Sorting.{sorted_same, sorted_up}
use Rattle.std.proofs.lemmas.List.Sorted.{IsPermutation-sym}
use Rattle.std.proofs.lemmas.Bool.{and_parts, cases_Bool, ltb-true, ltb-false}
use Rattle.pool_core.proofs.SamePackage.{same_version}
use Rattle.pool_core.specs.candidate_core.Candidates.{Candidate, is_same_version}
use Rattle.pool_core.specs.candidate_core.Options.{IsIn, places_passing_counted_from}
use Rattle.pool_core.specs.candidate_core.Rank.{bytes_cmp, greater_version_first_cmp}
use Rattle.pool_core.proofs.candidate_core.OptionLists.{in_places, places_in}
use Rattle.pool_core.proofs.candidate_core.LoopTests.{any_at}
use Rattle.pool_core.proofs.candidate_core.Steps.{get_at}
use Rattle.pool_core.specs.option_ranks.Ranking.{Ranking}
use Rattle.pool_core.specs.option_ranks.declared.rank.VersionKey.{VersionKey}
use Rattle.pool_core.proofs.option_ranks.CountedRanks.{here_is}
use Rattle.pool_core.proofs.option_ranks.MovedMembers.{member_of_all, moved_member}
use Rattle.pool_core.proofs.option_ranks.RankedOptions.{place_of}
use Rattle.query_core.specs.Order.{name_then_greater_version_first_cmp, candidate_places_cmp, sorted_places_passing}
use Rattle.query_core.specs.Policy.{has_own_name_and_version_text, has_own_name, is_of_repository, sorted_distinct_versions_of_name, versions_except_those_repeated_later}
use Rattle.query_core.specs.QueryRanking.{AreInQueryOrder, IsQueryRanking, have_same_version}
use Rattle.query_core.specs.VersionPlaces.{ListsPlacesOf, VersionPlaces}
use Rattle.query_core.proofs.Gathered.{candidates_of}
use Rattle.query_core.proofs.QueryOrder.{candidates_total, last_decides, query_total, texts_same}
use Rattle.query_core.proofs.Runs.{any_filtered, any_found_at, at_some_place, below_length, below_taken, bool_same, dropped_at, dropped_twice, found_any_at, from_mapped, is_in_at, mapped_at, mapped_drop, once_run, passes_at, same_text, taken_at}

abbrev pub version_of : Ranking → Option (List ℕ)
version_of r = r.version.version

-- ---- the order of candidates

equal_parts : (a b : Candidate) → name_then_greater_version_first_cmp a b ≡ Equal → a.version ≡ b.version
equal_parts a b h =
    texts_same a.version b.version
    (last_decides (greater_version_first_cmp a.version b.version) (option_cmp bytes_cmp a.version b.version) (last_decides (bytes_cmp a.name b.name) (ordering_then (greater_version_first_cmp a.version b.version) (option_cmp bytes_cmp a.version b.version)) h))

less_first : (o r : Ordering) → is_lt (ordering_then o r) ≡ false → is_lt o ≡ false
less_first Less r h = h
less_first Equal r h = refl
less_first Greater r h = refl

module _ (versions : IsTotalOrder version_cmp) where
  equal_when : (a b : Candidate) → a.name ≡ b.name → a.version ≡ b.version → name_then_greater_version_first_cmp a b ≡ Equal
  equal_when a b e f =
      ap (λ (n : List ℕ). ordering_then (bytes_cmp a.name n) (ordering_then (greater_version_first_cmp a.version b.version) (option_cmp bytes_cmp a.version b.version))) (sym e)
      ∙ (ap (λ (v : Option (List ℕ)). ordering_then (bytes_cmp a.name a.name) (ordering_then (greater_version_first_cmp a.version v) (option_cmp bytes_cmp a.version v))) (sym f)
      ∙ tied_itself (candidates_total versions) a)

  -- of three in order, if the outer two have one name and version, the one between has the version
  between : (s e x : Candidate) → is_lt (name_then_greater_version_first_cmp e s) ≡ false → is_lt (name_then_greater_version_first_cmp x e) ≡ false → s.name ≡ x.name → s.version ≡ x.version → s.version ≡ e.version
  between s e x first second names same = by (candidates_total versions) (name_then_greater_version_first_cmp e s) refl
    where
      by : IsTotalOrder name_then_greater_version_first_cmp → (o : Ordering) → o ≡ name_then_greater_version_first_cmp e s → s.version ≡ e.version
      by total Less h = let bad : true ≡ false = ap is_lt h ∙ first in absurd (cc)
      by total Equal h = sym (equal_parts e s (sym h))
      by total Greater h =
          let less : name_then_greater_version_first_cmp s e ≡ Less = total.antisymm s e ∙ ap ordering_reverse (sym h) in
          let moved : name_then_greater_version_first_cmp x e ≡ name_then_greater_version_first_cmp s e = sym (total.congr s x e (equal_when s x names same)) in
          let bad : true ≡ false = sym (ap is_lt (moved ∙ less)) ∙ second in
          absurd (cc)

-- ---- the rankings

found_at_places : (cs : List Candidate) (rs : List Ranking) → filter_map (slice_get cs) (map place_of rs) ≡ filter_map (λ (r : Ranking). slice_get cs r.place) rs
found_at_places cs [] = refl
found_at_places cs (r ∷ rs) = ap (cons_option (slice_get cs r.place)) (found_at_places cs rs)

versions_found : (cs : List Candidate) (rs : List Ranking) → All (IsQueryRanking cs) rs → map (λ (c : Candidate). c.version) (filter_map (λ (r : Ranking). slice_get cs r.place) rs) ≡ map version_of rs
versions_found cs [] all = refl
versions_found cs (r ∷ rs) all =
    let here : IsQueryRanking cs r = all 0 r (omega arith) in
    let is : here.0.version ≡ version_of r = sym (ap version_of here.1.1) in
    rw here.1.0 (ap (λ (v : Option (List ℕ)). v ∷ map (λ (c : Candidate). c.version) (filter_map (λ (q : Ranking). slice_get cs q.place) rs)) is
    ∙ ap (λ (vs : List (Option (List ℕ))). version_of r ∷ vs) (versions_found cs rs (λ i d h. all (suc i) d (omega (arith, h)))))

first_candidate : (cs : List Candidate) (rs : List Ranking) (r : Ranking) (c : Candidate) → slice_get rs 0 ≡ Some r → slice_get cs r.place ≡ Some c → slice_get (candidates_of cs rs) 0 ≡ Some c
first_candidate cs [] r c h e = absurd (cc)
first_candidate cs (q ∷ rs) r c h e = let s : q ≡ r = cc in rw (ap (λ (a : Ranking). slice_get cs a.place) s ∙ e) refl

module _ (versions : IsTotalOrder version_cmp) (cs : List Candidate) (name : List ℕ) (rs : List Ranking) (read : All (IsQueryRanking cs) rs) (places : map place_of rs ≡ sorted_places_passing (has_own_name name) cs) where
  -- what is printed of the name are the versions of the rankings
  pub versions_are : sorted_distinct_versions_of_name cs name ≡ versions_except_those_repeated_later (map version_of rs)
  versions_are =
      ap versions_except_those_repeated_later
      (ap (λ (ps : List ℕ). map (λ (c : Candidate). c.version) (filter_map (slice_get cs) ps)) (sym places)
      ∙ (ap (map (λ (c : Candidate). c.version)) (found_at_places cs rs) ∙ versions_found cs rs read))

  is_read : (i : ℕ) (r : Ranking) → slice_get rs i ≡ Some r → IsQueryRanking cs r
  is_read i r h = member_of_all (IsQueryRanking cs) rs r read (is_in_at rs i r h)

  own_name : (i : ℕ) (r : Ranking) (c : Candidate) → slice_get rs i ≡ Some r → slice_get cs r.place ≡ Some c → has_own_name name c ≡ true
  own_name i r c h e =
      let there : IsIn r.place (sorted_places_passing (has_own_name name) cs) = subst (λ (ps : List ℕ). IsIn r.place ps) places (is_in_at (map place_of rs) i r.place (mapped_at place_of rs i r h)) in
      let unsorted : List ℕ = places_passing_counted_from 0 (has_own_name name) cs in
      let place = places_in 0 (has_own_name name) cs r.place (moved_member (sorted_by (candidate_places_cmp cs) unsorted) unsorted r.place (IsPermutation-sym unsorted (sorted_by (candidate_places_cmp cs) unsorted) (sorted_same (candidate_places_cmp cs) unsorted)) there) in
      let z : place.0 ≡ r.place = omega (arith, place.1) in
      let passes : option_map_or (has_own_name name) (slice_get cs r.place) false ≡ true = subst (λ (k : ℕ). option_map_or (has_own_name name) (slice_get cs k) false ≡ true) z place.2 in
      ap (λ (o : Option Candidate). option_map_or (has_own_name name) o false) (sym e) ∙ passes

  version_is : (i : ℕ) (r : Ranking) (c : Candidate) → slice_get rs i ≡ Some r → slice_get cs r.place ≡ Some c → version_of r ≡ c.version
  version_is i r c h e =
      let here : IsQueryRanking cs r = is_read i r h in
      let both : Some here.0 ≡ Some c = sym here.1.0 ∙ e in
      let is : here.0 ≡ c = cc in
      ap version_of here.1.1 ∙ ap (λ (d : Candidate). d.version) is

  not_before : (i j : ℕ) (a b : Ranking) (x y : Candidate) → i ≤ j → slice_get rs i ≡ Some a → slice_get rs j ≡ Some b → slice_get cs a.place ≡ Some x → slice_get cs b.place ≡ Some y → is_lt (name_then_greater_version_first_cmp y x) ≡ false
  not_before i j a b x y low h g e f =
      let ps : List ℕ = map place_of rs in
      let total = query_total versions cs in
      let up : IsSorted (candidate_places_cmp cs) ps = subst (IsSorted (candidate_places_cmp cs)) (sym places) (sorted_up (candidate_places_cmp cs) total (places_passing_counted_from 0 (has_own_name name) cs)) in
      let at_i : slice_get ps i ≡ Some a.place = mapped_at place_of rs i a h in
      let at_j : slice_get ps j ≡ Some b.place = mapped_at place_of rs j b g in
      let high : j < length ps = below_length ps j b.place at_j in
      let far : is_lt (candidate_places_cmp cs (get_or ps j 0) (get_or ps i 0)) ≡ false = sorted_far (λ m n. is_lt (candidate_places_cmp cs m n)) (ranks_by total (λ (k : ℕ). k)) ps up i j 0 low high in
      let one : is_lt (candidate_places_cmp cs b.place a.place) ≡ false = ap (λ (n : ℕ). is_lt (candidate_places_cmp cs b.place n)) (sym (here_is ps i 0 a.place (omega (arith, low, high)) at_i)) ∙ (ap (λ (n : ℕ). is_lt (candidate_places_cmp cs n (get_or ps i 0))) (sym (here_is ps j 0 b.place high at_j)) ∙ far) in
      let seen : is_lt (ordering_then (name_then_greater_version_first_cmp y x) (nat_cmp b.place a.place)) ≡ false =
      ap (λ (o : Option Candidate). is_lt (ordering_then (option_cmp name_then_greater_version_first_cmp (Some y) o) (nat_cmp b.place a.place))) (sym e)
      ∙ (ap (λ (o : Option Candidate). is_lt (ordering_then (option_cmp name_then_greater_version_first_cmp o (slice_get cs a.place)) (nat_cmp b.place a.place))) (sym f) ∙ one) in
      less_first (name_then_greater_version_first_cmp y x) (nat_cmp b.place a.place) seen

  same_names : (x y : Candidate) → has_own_name name x ≡ true → has_own_name name y ≡ true → x.name ≡ y.name
  same_names x y h g = sym ((bytes_eq-Decides name x.name).0 h) ∙ (bytes_eq-Decides name y.name).0 g

  module _ (key : VersionKey) (ordered : AreInQueryOrder cs key rs) where
    -- after the first one with another version, none has the version
    past_run : (start end j : ℕ) (s e x : Ranking) → start ≤ end → end ≤ j → slice_get rs start ≡ Some s → slice_get rs end ≡ Some e → slice_get rs j ≡ Some x → have_same_version key s e ≡ false → version_of s ≡ version_of x → ⊥
    past_run start end j s e x low high hs he hx other same =
        let rs_s = is_read start s hs in
        let rs_e = is_read end e he in
        let rs_x = is_read j x hx in
        let cs_s : Candidate = rs_s.0 in
        let cs_e : Candidate = rs_e.0 in
        let cs_x : Candidate = rs_x.0 in
        let vs : version_of s ≡ cs_s.version = version_is start s cs_s hs rs_s.1.0 in
        let ve : version_of e ≡ cs_e.version = version_is end e cs_e he rs_e.1.0 in
        let vx : version_of x ≡ cs_x.version = version_is j x cs_x hx rs_x.1.0 in
        let middle : cs_s.version ≡ cs_e.version =
        between versions cs_s cs_e cs_x (not_before start end s e cs_s cs_e low hs he rs_s.1.0 rs_e.1.0) (not_before end j e x cs_e cs_x high he hx rs_e.1.0 rs_x.1.0)
        (same_names cs_s cs_x (own_name start s cs_s hs rs_s.1.0) (own_name j x cs_x hx rs_x.1.0)) (sym vs ∙ (same ∙ vx)) in
        let alike : have_same_version key s e ≡ true = ordered.same s e (is_in_at rs start s hs) (is_in_at rs end e he) (vs ∙ (middle ∙ sym ve)) in
        let bad : true ≡ false = sym alike ∙ other in
        absurd (cc)

    module _ (start end : ℕ) (s : Ranking) (some : start < end) (within : end ≤ length rs) (first : slice_get rs start ≡ Some s)
        (one : (i : ℕ) (a b : Ranking) → start ≤ i → i < end → slice_get rs start ≡ Some a → slice_get rs i ≡ Some b → have_same_version key a b ≡ true)
        (other : (a b : Ranking) → slice_get rs start ≡ Some a → slice_get rs end ≡ Some b → have_same_version key a b ≡ false)
        (apart : (i j : ℕ) (a b : Ranking) → i < start → start ≤ j → slice_get rs i ≡ Some a → slice_get rs j ≡ Some b → version_of a ≡ version_of b → ⊥) where
      in_run : (i : ℕ) (b : Ranking) → start ≤ i → i < end → slice_get rs i ≡ Some b → version_of s ≡ version_of b
      in_run i b low high h = ordered.alike s b (is_in_at rs start s first) (is_in_at rs i b h) (one i s b low high first h)

      none_after : (j : ℕ) (x : Ranking) → end ≤ j → slice_get rs j ≡ Some x → version_of s ≡ version_of x → ⊥
      none_after j x low h same =
          let high : j < length rs = below_length rs j x h in
          let e : Ranking = get_or rs end x in
          let at : slice_get rs end ≡ Some e = get_at rs end x (omega (arith, low, high)) in
          past_run start end j s e x (omega (arith, some)) low first at h (other s e first at) same

      -- the versions up to the end of the run are not found after it
      pub apart_after : (i j : ℕ) (a b : Ranking) → i < end → end ≤ j → slice_get rs i ≡ Some a → slice_get rs j ≡ Some b → version_of a ≡ version_of b → ⊥
      apart_after i j a b low high h g same = elim (cases_Bool (nat_lt i start)) [
        | inl e ↦ apart i j a b (ltb-true i start e) (omega (arith, some, high)) h g same
        | inr e ↦ none_after j b high g (in_run i a (ltb-false i start e) low h ∙ same)
      ]

      -- the version of the run is left once
      pub next_version : versions_except_those_repeated_later (map version_of (drop start rs)) ≡ version_of s ∷ versions_except_those_repeated_later (map version_of (drop end rs))
      next_version =
          let n : ℕ = end - start in
          let z : start + n ≡ end = omega (arith, some) in
          once_run (map version_of (drop start rs)) n (version_of s) (omega (arith, some))
          (λ m low.
          let r : Ranking = get_or rs (start + m) s in
          let at : slice_get rs (start + m) ≡ Some r = get_at rs (start + m) s (omega (arith, low, within)) in
          mapped_at version_of (drop start rs) m r (dropped_at rs start m ∙ at) ∙ ap Some (sym (in_run (start + m) r (omega arith) (omega (arith, low)) at)))
          (λ m low h.
          let found = from_mapped version_of (drop start rs) m (version_of s) h in
          none_after (start + m) found.0 (omega (arith, low)) (sym (dropped_at rs start m) ∙ found.1.0) (sym found.1.1))
          ∙ ap (λ (vs : List (Option (List ℕ))). version_of s ∷ versions_except_those_repeated_later vs) (sym (mapped_drop version_of (drop start rs) n) ∙ ap (map version_of) (dropped_twice rs start n ∙ ap (λ (k : ℕ). drop k rs) z))

      run_at : (m : ℕ) (r : Ranking) → slice_get (take (end - start) (drop start rs)) m ≡ Some r → (m < end - start) × (slice_get rs (start + m) ≡ Some r)
      run_at m r h =
          let low : m < end - start = below_taken (drop start rs) (end - start) m r h in
          (low, sym (dropped_at rs start m) ∙ (sym (taken_at (drop start rs) (end - start) m low) ∙ h))

      at_run : (i : ℕ) (r : Ranking) → start ≤ i → i < end → slice_get rs i ≡ Some r → slice_get (take (end - start) (drop start rs)) (i - start) ≡ Some r
      at_run i r low high h =
          let z : start + (i - start) ≡ i = omega (arith, low) in
          taken_at (drop start rs) (end - start) (i - start) (omega (arith, low, high)) ∙ (dropped_at rs start (i - start) ∙ (ap (slice_get rs) z ∙ h))

      of_run : (q : Candidate → Bool) → list_any q (filter (has_own_name_and_version_text name (version_of s)) cs) ≡ true → list_any q (candidates_of cs (take (end - start) (drop start rs))) ≡ true
      of_run q h =
          let p : Candidate → Bool = has_own_name_and_version_text name (version_of s) in
          let found = passes_at (λ (x : Candidate). p x && q x) cs (sym (any_filtered p q cs) ∙ h) in
          let k : ℕ = found.0 in
          let x : Candidate = found.1.0 in
          let here : slice_get cs k ≡ Some x = found.1.1.0 in
          let pq = and_parts (p x) (q x) found.1.1.1 in
          let named = and_parts (has_own_name name x) (is_same_version (version_of s) x.version) pq.0 in
          let unsorted : List ℕ = places_passing_counted_from 0 (has_own_name name) cs in
          let passes : option_map_or (has_own_name name) (slice_get cs k) false ≡ true = ap (λ (o : Option Candidate). option_map_or (has_own_name name) o false) here ∙ named.0 in
          let z : 0 + k ≡ k = omega arith in
          let placed : IsIn k unsorted = subst (λ (m : ℕ). IsIn m unsorted) z (in_places 0 (has_own_name name) cs k passes) in
          let sorted : IsIn k (map place_of rs) = subst (λ (ps : List ℕ). IsIn k ps) (sym places) (moved_member unsorted (sorted_by (candidate_places_cmp cs) unsorted) k (sorted_same (candidate_places_cmp cs) unsorted) placed) in
          let where_it_is = at_some_place (map place_of rs) k sorted in
          let i : ℕ = where_it_is.0 in
          let ranked = from_mapped place_of rs i k where_it_is.1 in
          let r : Ranking = ranked.0 in
          let at : slice_get rs i ≡ Some r = ranked.1.0 in
          let there : slice_get cs r.place ≡ Some x = ap (slice_get cs) ranked.1.1 ∙ here in
          let same : version_of s ≡ version_of r = same_version (version_of s) x.version named.1 ∙ sym (version_is i r x at there) in
          elim (cases_Bool (nat_lt i start)) [
            | inl e ↦ absurd (apart i start r s (ltb-true i start e) (omega arith) at first (sym same))
            | inr e ↦ elim (cases_Bool (nat_lt i end)) [
              | inl f ↦ any_found_at (λ (a : Ranking). slice_get cs a.place) q (take (end - start) (drop start rs)) (i - start) r x (at_run i r (ltb-false i start e) (ltb-true i end f) at) there pq.1
              | inr f ↦ absurd (none_after i r (ltb-false i end f) at same)
            ]
          ]

      from_run : (q : Candidate → Bool) → list_any q (candidates_of cs (take (end - start) (drop start rs))) ≡ true → list_any q (filter (has_own_name_and_version_text name (version_of s)) cs) ≡ true
      from_run q h =
          let p : Candidate → Bool = has_own_name_and_version_text name (version_of s) in
          let found = found_any_at (λ (a : Ranking). slice_get cs a.place) q (take (end - start) (drop start rs)) h in
          let m : ℕ = found.0 in
          let r : Ranking = found.1.0 in
          let x : Candidate = found.1.1.0 in
          let at = run_at m r found.1.1.1.0 in
          let there : slice_get cs r.place ≡ Some x = found.1.1.1.1.0 in
          let same : version_of s ≡ x.version = in_run (start + m) r (omega arith) (omega (arith, at.0)) at.1 ∙ version_is (start + m) r x at.1 there in
          let named : has_own_name name x ≡ true = own_name (start + m) r x at.1 there in
          let version : is_same_version (version_of s) x.version ≡ true = subst (λ (v : Option (List ℕ)). is_same_version (version_of s) v ≡ true) same (same_text (version_of s)) in
          let both : (p x && q x) ≡ true = rw (named, version) found.1.1.1.1.1 in
          any_filtered p q cs ∙ any_at (λ (y : Candidate). p y && q y) cs r.place x there both

      -- the candidates of the run are just those of the name with the version
      pub run_is : (q : Candidate → Bool) → list_any q (filter (has_own_name_and_version_text name (version_of s)) cs) ≡ list_any q (candidates_of cs (take (end - start) (drop start rs)))
      run_is q = bool_same _ _ (of_run q) (from_run q)

      pub run_within : All (λ (r : Ranking). r.place < length cs) (take (end - start) (drop start rs))
      run_within = λ k d h.
          let r : Ranking = get_or (take (end - start) (drop start rs)) k d in
          let at = run_at k r (get_at (take (end - start) (drop start rs)) k d h) in
          let here = is_read (start + k) r at.1 in
          below_length cs r.place here.0 here.1.0

      -- the first candidate of the run has the version
      pub first_of_run : (c : Candidate) × ((slice_get (candidates_of cs (take (end - start) (drop start rs))) 0 ≡ Some c) × (c.version ≡ version_of s))
      first_of_run =
          let here = is_read start s first in
          let z : start - start ≡ 0 = omega arith in
          let at : slice_get (take (end - start) (drop start rs)) 0 ≡ Some s = ap (slice_get (take (end - start) (drop start rs))) (sym z) ∙ at_run start s (omega arith) some first in
          (here.0, (first_candidate cs (take (end - start) (drop start rs)) s here.0 at here.1.0, sym (version_is start s here.0 first here.1.0)))

-- what is gathered of some candidates is so of others that pass the same tests
pub says_same : (xs ys : List Candidate) (v : VersionPlaces) → ((q : Candidate → Bool) → list_any q xs ≡ list_any q ys) → ListsPlacesOf ys v → ListsPlacesOf xs v
says_same xs ys v same says = record {
  installed = same (λ (c : Candidate). c.installed) ∙ says.installed;
  order = says.order;
  each = λ n h. same (is_of_repository n) ∙ says.each n h;
  all = λ n h. says.all n (sym (same (is_of_repository n)) ∙ h);
}
