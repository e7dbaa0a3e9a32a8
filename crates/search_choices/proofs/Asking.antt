-- Which candidates ask for a name by their install-if, and the least of these names.
use Rattle.std.proofs.Common.{◌≡◌, inl, inr, ℕ, zero, suc, ◌+◌, ◌≤◌, ◌<◌, Bool, true, false, List, [], ◌∷◌, ◌++◌, length, map, get_or, refl, sym, subst, ap, ◌∙◌, arith, true≢false}
use Rattle.std.specs.Prelude.{Option, Some, None, ◌&&◌, not, slice_get, if◌then◌else◌, MatchOption, ◌⊎◌}
use Rattle.std.specs.Bool.{MatchBool}
use Rattle.std.specs.Option.{option_map, option_map_or}
use Rattle.std.specs.List.{filter, find, list_all, list_any}
use Rattle.std.specs.Str.{bytes_eq}
use Rattle.std.specs.Ordering.{is_eq, is_lt, ordering_reverse}
use Rattle.std.specs.declared.cmp.Ordering.{Ordering}
use Rattle.std.specs.declared.cmp.Ordering.TheVariants.{Less, Equal, Greater}
use Rattle.std.specs.Cmp.Lexicographic.{bytes_decides, nat_list_cmp_total}
use Rattle.std.proofs.lemmas.Bool.{cases_lt, and_parts, or_cases, cases_Bool}
use Rattle.std.proofs.lemmas.Map.Text.{is_eq-slice_cmp}
use Rattle.search_needs.proofs.search_tables.pool_core.Filtered.{meeting_offers}
use Rattle.dep_core.specs.Dependency.{Dependency}
use Rattle.search_needs.specs.candidate_core.Candidates.{Candidate, Need, entry, is_eligible_with_positive_install_if, named, offers_name, meets_dependency}
use Rattle.search_needs.specs.candidate_core.Rank.{SelectionProblem, bytes_cmp, candidate_at, meets_at}
use Rattle.search_needs.specs.candidate_core.Options.{IsIn, options_for}
use Rattle.search_needs.proofs.candidate_core.Places.{place_of}
use Rattle.search_needs.specs.search_tables.Selection.{AreAllMembersOf, is_met, is_unmet, names_whose_install_if_applies, install_if_applies, least_name, lesser_name, needs, next_need, needs_of_world_and_chosen}
use Rattle.search_needs.specs.search_tables.Reasons.{FrameValue, IsFrameOf}
use Rattle.search_needs.specs.TriggeredInstallIf.{AreNoneTriggeredBelow, IsLeastTriggeredInstallIf, IsNoInstallIfTriggered, all_met, is_install_if_triggered_at, is_triggered_by_install_if, is_install_if_triggered_at_rank}
use Rattle.search_needs.specs.search_tables.InstallIf.{AreUsableInstallIfsByName, has_lesser_name, install_if_at, is_eligible_with_positive_install_if_at, name_at}
use Rattle.search_needs.specs.search_tables.NameTable.{items_under_name}
use Rattle.search_needs.specs.search_tables.Queue.{is_unmet_dep, queue_of}
use Rattle.search_needs.proofs.search_tables.Theory.{in_append, in_right, none_or_some}
use Rattle.search_needs.proofs.search_tables.PoolFacts.{any_in, filter_in, in_filter, in_map, map_in, least_in}
use Rattle.search_needs.proofs.search_tables.Satisfying.{any_one, one_any}
use Rattle.search_needs.proofs.search_tables.Queued.{any_append}
use Rattle.search_needs.proofs.search_tables.Places.{there_is}
use Rattle.search_choices.proofs.Consistency.{passing_is_within, none_raised}

-- ---- places and ranks

pub at_some : {X : Type 0} (p : X → Bool) (o : Option X) → option_map_or p o false ≡ true → (x : X) × (o ≡ Some x) × (p x ≡ true)
at_some p None h = absurd (cc)
at_some p (Some x) h = (x, refl, h)

some_at : {X : Type 0} (p : X → Bool) (o : Option X) (x : X) → o ≡ Some x → option_map_or p o false ≡ p x
some_at {X} p o x e = ap (λ (z : Option X). option_map_or p z false) e

rank_of : (xs : List ℕ) (k : ℕ) → IsIn k xs → (r : ℕ) × (r < length xs) × (slice_get xs r ≡ Some k)
rank_of [] k h = absurd h
rank_of (x ∷ xs) k (inl e) = (0, omega arith, ap Some (sym e))
rank_of (x ∷ xs) k (inr h) = let r = rank_of xs k h in (suc r.0, omega (arith, r.1), r.2)

get_is : (xs : List ℕ) (r k d : ℕ) → slice_get xs r ≡ Some k → get_or xs r d ≡ k
get_is [] zero k d h = absurd (cc)
get_is [] (suc r) k d h = absurd (cc)
get_is (x ∷ xs) zero k d h = cc
get_is (x ∷ xs) (suc r) k d h = get_is xs r k d h

past_of : (xs : List ℕ) (r : ℕ) → slice_get xs r ≡ None → length xs ≤ r
past_of [] r h = omega arith
past_of (x ∷ xs) zero h = absurd (cc)
past_of (x ∷ xs) (suc r) h = let g = past_of xs r h in omega (arith, g)

-- ---- the first rank that asks

-- where the cursor is past the last, none asks
pub none_ask : (pool : SelectionProblem) (t by_name : List ℕ) (waiting : List (List ℕ × List ℕ)) (cursor : ℕ) → AreUsableInstallIfsByName pool by_name waiting → AreNoneTriggeredBelow pool t by_name cursor → slice_get by_name cursor ≡ None → IsNoInstallIfTriggered pool t
none_ask pool t by_name waiting cursor are free none = λ o usable.
    let r = rank_of by_name o (are.each o usable) in
    let past = past_of by_name cursor none in
    sym (some_at (λ (k : ℕ). is_install_if_triggered_at pool t k) (slice_get by_name r.0) o r.2) ∙ free r.0 (omega (arith, r.1, past))

-- where the candidate at the cursor asks, it has the least name
pub least_asks : (pool : SelectionProblem) (t by_name : List ℕ) (waiting : List (List ℕ × List ℕ)) (cursor k : ℕ) → AreUsableInstallIfsByName pool by_name waiting → AreNoneTriggeredBelow pool t by_name cursor → slice_get by_name cursor ≡ Some k → is_install_if_triggered_at pool t k ≡ true → IsLeastTriggeredInstallIf pool t k
least_asks pool t by_name waiting cursor k are free here asks = record {
  usable = are.those k (there_is by_name cursor k here).1;
  asks = asks;
  least = λ o usable asking.
      let r = rank_of by_name o (are.each o usable) in
      elim (cases_lt r.0 cursor) [
        | inl low ↦ absurd (true≢false (sym (some_at (λ (j : ℕ). is_install_if_triggered_at pool t j) (slice_get by_name r.0) o r.2 ∙ asking) ∙ (free r.0 low)))
        | inr high ↦
            let up = are.rising cursor r.0 0 high r.1 in
            subst (λ (j : ℕ). has_lesser_name pool o j ≡ false) (get_is by_name cursor k 0 here)
            (subst (λ (j : ℕ). has_lesser_name pool j (get_or by_name cursor 0) ≡ false) (get_is by_name r.0 o 0 r.2) up)
      ];
}

-- where it does not ask, the cursor moves on
pub one_more_unasked : (pool : SelectionProblem) (t by_name : List ℕ) (cursor k : ℕ) → AreNoneTriggeredBelow pool t by_name cursor → slice_get by_name cursor ≡ Some k → is_install_if_triggered_at pool t k ≡ false → (cursor + 1 ≤ length by_name) × AreNoneTriggeredBelow pool t by_name (cursor + 1)
one_more_unasked pool t by_name cursor k free here asks = (
  (let g = there_is by_name cursor k here in omega (arith, g.0)),
  (λ rank low. elim (cases_lt rank cursor) [
    | inl before ↦ free rank before
    | inr at ↦
        let e : cursor ≡ rank = omega (arith, low, at) in
        subst (λ (j : ℕ). is_install_if_triggered_at_rank pool t by_name j ≡ false) e (some_at (λ (j : ℕ). is_install_if_triggered_at pool t j) (slice_get by_name cursor) k here ∙ asks)
  ]),
)

pub front_of : (pool : SelectionProblem) (t by_name : List ℕ) (waiting : List (List ℕ × List ℕ)) (cursor k : ℕ) (b : Bool) → AreUsableInstallIfsByName pool by_name waiting → AreNoneTriggeredBelow pool t by_name cursor → slice_get by_name cursor ≡ Some k → b ≡ is_install_if_triggered_at pool t k → MatchBool (not b) ((cursor + 1 ≤ length by_name) × AreNoneTriggeredBelow pool t by_name (cursor + 1)) (MatchOption (slice_get by_name cursor) (IsNoInstallIfTriggered pool t) (λ id. IsLeastTriggeredInstallIf pool t id))
front_of pool t by_name waiting cursor k true are free here is = rw here (least_asks pool t by_name waiting cursor k are free here (sym is))
front_of pool t by_name waiting cursor k false are free here is = one_more_unasked pool t by_name cursor k free here (sym is)

pub front_past : (pool : SelectionProblem) (t by_name : List ℕ) (waiting : List (List ℕ × List ℕ)) (cursor : ℕ) → AreUsableInstallIfsByName pool by_name waiting → AreNoneTriggeredBelow pool t by_name cursor → slice_get by_name cursor ≡ None → MatchOption (slice_get by_name cursor) (IsNoInstallIfTriggered pool t) (λ id. IsLeastTriggeredInstallIf pool t id)
front_past pool t by_name waiting cursor are free none = rw none (none_ask pool t by_name waiting cursor are free none)

-- ---- what a further choice changes

all_in : {X : Type 0} (p : X → Bool) (xs : List X) (x : X) → list_all p xs ≡ true → IsIn x xs → p x ≡ true
all_in p [] x h m = absurd m
all_in p (y ∷ xs) x h (inl e) = let a = and_parts (p y) (list_all p xs) h in ap p e ∙ a.0
all_in p (y ∷ xs) x h (inr m) = let a = and_parts (p y) (list_all p xs) h in all_in p xs x a.1 m

not_all : {X : Type 0} (p : X → Bool) (xs : List X) → list_all p xs ≡ false → (x : X) × IsIn x xs × (p x ≡ false)
not_all p [] h = absurd (cc)
not_all p (y ∷ xs) h = elim (cases_Bool (p y)) [
  | inr e ↦ (y, inl refl, e)
  | inl e ↦ let r = not_all p xs (rw e at h) in (r.0, inr r.1, r.2)
]

met_by_last : (pool : SelectionProblem) (t : List ℕ) (c : ℕ) (q : Need) → is_met pool (t ++ c ∷ []) q ≡ true → is_met pool t q ≡ false → meets_at pool c q ≡ true
met_by_last pool t c q h none =
    let r = any_in (λ k. meets_at pool k q) (t ++ c ∷ []) h in
    elim (in_append r.0 t (c ∷ []) r.1) [
      | inl a ↦ absurd (true≢false (sym (one_any (λ k. meets_at pool k q) t r.0 a r.2) ∙ none))
      | inr b ↦ elim b [ inl e ↦ subst (λ (z : ℕ). meets_at pool z q ≡ true) e r.2 | inr bad ↦ absurd bad ]
    ]

unmet_less : (pool : SelectionProblem) (t : List ℕ) (c : ℕ) (q : Need) → is_unmet pool (t ++ c ∷ []) q ≡ true → is_unmet pool t q ≡ true
unmet_less pool t c q h = elim (cases_Bool (is_met pool t q)) [
  | inr e ↦ ap not e
  | inl e ↦ let m : is_met pool (t ++ c ∷ []) q ≡ true = any_append (λ k. meets_at pool k q) t (c ∷ []) e in absurd (true≢false (sym h ∙ (ap not m)))
]

-- the ranks in front of the cursor stay unasked where it does not pass one that the choice makes ask
pub unasked_more : (pool : SelectionProblem) (t : List ℕ) (c : ℕ) (details : Candidate) (by_name : List ℕ) (waiting : List (List ℕ × List ℕ)) (old new : ℕ) → AreUsableInstallIfsByName pool by_name waiting → candidate_at pool c ≡ Some details → AreNoneTriggeredBelow pool t by_name old → new ≤ old → ((name : List ℕ) (rank : ℕ) → offers_name name details ≡ true → IsIn rank (items_under_name waiting name) → rank < new → is_install_if_triggered_at_rank pool (t ++ c ∷ []) by_name rank ≡ false) → AreNoneTriggeredBelow pool (t ++ c ∷ []) by_name new
unasked_more pool t c details by_name waiting old new are here was less now = λ rank low. elim (cases_Bool (is_install_if_triggered_at_rank pool (t ++ c ∷ []) by_name rank)) [
  | inr e ↦ e
  | inl e ↦
      let k = at_some (λ (j : ℕ). is_install_if_triggered_at pool (t ++ c ∷ []) j) (slice_get by_name rank) e in
      let one = at_some (is_triggered_by_install_if pool (t ++ c ∷ [])) (candidate_at pool k.0) k.2 in
      let both = and_parts (all_met pool (t ++ c ∷ []) one.0.install_if) (is_unmet pool (t ++ c ∷ []) (named one.0.name)) one.2 in
      let low_old : rank < old = omega (arith, low, less) in
      elim (cases_Bool (all_met pool t one.0.install_if)) [
        | inl all ↦
            let asks : is_triggered_by_install_if pool t one.0 ≡ true = rw all (unmet_less pool t c (named one.0.name) both.1) in
            let at : is_install_if_triggered_at pool t k.0 ≡ true = some_at (is_triggered_by_install_if pool t) (candidate_at pool k.0) one.0 one.1 ∙ asks in
            absurd (true≢false (sym (some_at (λ (j : ℕ). is_install_if_triggered_at pool t j) (slice_get by_name rank) k.0 k.1 ∙ at) ∙ (was rank low_old)))
        | inr some ↦
            let d = not_all (λ (d : Dependency). is_met pool t (entry d)) one.0.install_if some in
            let met = all_in (λ (d : Dependency). is_met pool (t ++ c ∷ []) (entry d)) one.0.install_if d.0 both.0 d.1 in
            let meets = met_by_last pool t c (entry d.0) met d.2 in
            let offers : offers_name d.0.name details ≡ true = meeting_offers d.0 details (sym (some_at (meets_dependency d.0) (candidate_at pool c) details here) ∙ meets) in
            let entries : install_if_at pool k.0 ≡ one.0.install_if = ap (λ (o : Option Candidate). option_map_or (λ (x : Candidate). x.install_if) o []) one.1 in
            now d.0.name rank offers (are.entries rank k.0 d.0 k.1 (subst (λ (z : List Dependency). IsIn d.0 z) (sym entries) d.1)) low
      ]
]

-- what a candidate offers is its own name, or one that it provides
pub offered_names : (name : List ℕ) (c : Candidate) → offers_name name c ≡ true → (name ≡ c.name) ⊎ ((p : Dependency) × IsIn p c.provides × (name ≡ p.name))
offered_names name c h = elim (or_cases (bytes_eq name c.name) (list_any (λ (p : Dependency). not p.conflict && bytes_eq name p.name) c.provides) h) [
  | inl e ↦ inl ((bytes_decides name c.name).0 e)
  | inr e ↦
      let a = any_one (λ (p : Dependency). not p.conflict && bytes_eq name p.name) c.provides e in
      inr (a.0, a.1, (bytes_decides name a.0.name).0 (and_parts (not a.0.conflict) (bytes_eq name a.0.name) a.2).1)
]

-- ---- the least name

abbrev asked_names : SelectionProblem → List ℕ → List (List ℕ)
asked_names pool t = filter (λ (name : List ℕ). is_unmet pool t (named name)) (names_whose_install_if_applies pool t)

asked_by : (pool : SelectionProblem) (t : List ℕ) (name : List ℕ) → IsIn name (asked_names pool t) → (o : ℕ) × (name ≡ name_at pool o) × (is_eligible_with_positive_install_if_at pool o ≡ true) × (is_install_if_triggered_at pool t o ≡ true)
asked_by pool t name h =
    let f = filter_in (λ (n : List ℕ). is_unmet pool t (named n)) name (names_whose_install_if_applies pool t) h in
    let m = map_in (λ (c : Candidate). c.name) name (filter (install_if_applies pool t) pool.candidates) f.0 in
    let g = filter_in (install_if_applies pool t) m.0 pool.candidates m.1 in
    let both = and_parts (is_eligible_with_positive_install_if pool.world m.0) (all_met pool t m.0.install_if) g.1 in
    let k = place_of pool.candidates m.0 g.0 in
    let unmet : is_unmet pool t (named m.0.name) ≡ true = subst (λ (n : List ℕ). is_unmet pool t (named n) ≡ true) m.2 f.1 in (
      k.0,
      m.2 ∙ sym (ap (λ (o : Option Candidate). option_map_or (λ (c : Candidate). c.name) o []) k.1),
      some_at (is_eligible_with_positive_install_if pool.world) (candidate_at pool k.0) m.0 k.1 ∙ both.0,
      some_at (is_triggered_by_install_if pool t) (candidate_at pool k.0) m.0 k.1 ∙ rw both.1 unmet,
    )

asked_there : (pool : SelectionProblem) (t : List ℕ) (o : ℕ) → is_eligible_with_positive_install_if_at pool o ≡ true → is_install_if_triggered_at pool t o ≡ true → IsIn (name_at pool o) (asked_names pool t)
asked_there pool t o usable asks =
    let one = at_some (is_eligible_with_positive_install_if pool.world) (candidate_at pool o) usable in
    let both = and_parts (all_met pool t one.0.install_if) (is_unmet pool t (named one.0.name)) (sym (some_at (is_triggered_by_install_if pool t) (candidate_at pool o) one.0 one.1) ∙ asks) in
    let applies : install_if_applies pool t one.0 ≡ true = rw one.2 both.0 in
    let name : name_at pool o ≡ one.0.name = ap (λ (z : Option Candidate). option_map_or (λ (c : Candidate). c.name) z []) one.1 in
    subst (λ (n : List ℕ). IsIn n (asked_names pool t)) (sym name)
    (in_filter (λ (n : List ℕ). is_unmet pool t (named n)) one.0.name (names_whose_install_if_applies pool t)
    (in_map (λ (c : Candidate). c.name) one.0 (filter (install_if_applies pool t) pool.candidates) (in_filter (install_if_applies pool t) one.0 pool.candidates (there_is pool.candidates o one.0 one.1).1 applies)) both.1)

same_name : (x y : List ℕ) → is_lt (bytes_cmp x y) ≡ false → is_lt (bytes_cmp y x) ≡ false → x ≡ y
same_name x y h g = (bytes_decides x y).0 (sym (is_eq-slice_cmp x y) ∙ tied (bytes_cmp x y) (bytes_cmp y x) (nat_list_cmp_total.antisymm x y) h g)
  where
    tied : (o p : Ordering) → o ≡ ordering_reverse p → is_lt o ≡ false → is_lt p ≡ false → is_eq o ≡ true
    tied Less p e h g = absurd (cc)
    tied Equal p e h g = refl
    tied Greater Less e h g = absurd (cc)
    tied Greater Equal e h g = absurd (cc)
    tied Greater Greater e h g = absurd (cc)

least_is : (x : List ℕ) (xs : List (List ℕ)) → IsIn x xs → ((y : List ℕ) → IsIn y xs → is_lt (bytes_cmp y x) ≡ false) → least_name xs ≡ Some x
least_is x [] h least = absurd h
least_is x (y ∷ ys) (inl e) least =
    subst (λ (z : List ℕ). Some (lesser_name z (least_name ys)) ≡ Some x) e (ap Some (stays (least_name ys) (λ z is. least z (inr (least_in ys z is)))))
  where
    stays : (o : Option (List ℕ)) → ((z : List ℕ) → o ≡ Some z → is_lt (bytes_cmp z x) ≡ false) → lesser_name x o ≡ x
    stays None below = refl
    stays (Some z) below = rw (below z refl) refl
least_is x (y ∷ ys) (inr h) least =
    let rest = least_is x ys h (λ z m. least z (inr m)) in
    rw rest (ap Some (taken (least y (inl refl))))
  where
    taken : is_lt (bytes_cmp y x) ≡ false → (if is_lt (bytes_cmp x y) then x else y) ≡ x
    taken above = elim (cases_Bool (is_lt (bytes_cmp x y))) [
      | inl e ↦ rw e refl
      | inr e ↦ rw e (same_name y x above e)
    ]

least_named : (pool : SelectionProblem) (t : List ℕ) (k : ℕ) → IsLeastTriggeredInstallIf pool t k → least_name (asked_names pool t) ≡ Some (name_at pool k)
least_named pool t k is = least_is (name_at pool k) (asked_names pool t) (asked_there pool t k is.usable is.asks) (λ y h.
    let o = asked_by pool t y h in
    subst (λ (n : List ℕ). is_lt (bytes_cmp n (name_at pool k)) ≡ false) (sym o.1) (is.least o.0 o.2 o.3))

none_named : (pool : SelectionProblem) (t : List ℕ) → IsNoInstallIfTriggered pool t → least_name (asked_names pool t) ≡ None
none_named pool t none = elim (none_or_some (least_name (asked_names pool t))) [
  | inl e ↦ e
  | inr some ↦ let o = asked_by pool t some.0 (least_in (asked_names pool t) some.0 some.1) in absurd (true≢false (sym o.3 ∙ (none o.0 o.2)))
]

-- no name is asked for and unmet
pub none_asked : (pool : SelectionProblem) (t : List ℕ) → find (is_unmet_dep pool t) (queue_of pool t) ≡ None → IsNoInstallIfTriggered pool t → next_need pool t ≡ None
unfolding next_need
none_asked pool t met none = rw (none_raised pool t met) (ap (option_map named) (none_named pool t none))

pub least_within : (pool : SelectionProblem) (t : List ℕ) (k : ℕ) → IsLeastTriggeredInstallIf pool t k → k < length pool.candidates
least_within pool t k is = passing_is_within pool (is_eligible_with_positive_install_if pool.world) k is.usable

-- the entries of the asking candidate's install-if are met
pub asks_all : (pool : SelectionProblem) (t : List ℕ) (k : ℕ) (c : Candidate) → IsLeastTriggeredInstallIf pool t k → candidate_at pool k ≡ Some c → all_met pool t c.install_if ≡ true
asks_all pool t k c is here =
    (and_parts (all_met pool t c.install_if) (is_unmet pool t (named c.name)) (sym (some_at (is_triggered_by_install_if pool t) (candidate_at pool k) c here) ∙ is.asks)).0

-- the frame of the least name
pub open_asked : (pool : SelectionProblem) (t : List ℕ) (k : ℕ) (c : Candidate) (by : List ℕ) (frame : FrameValue) → find (is_unmet_dep pool t) (queue_of pool t) ≡ None → IsLeastTriggeredInstallIf pool t k → candidate_at pool k ≡ Some c → AreAllMembersOf by t → all_met pool by c.install_if ≡ true → frame ≡ ([], options_for pool (named c.name), by) → IsFrameOf pool t frame
unfolding next_need
open_asked pool t k c by frame met least here within all is =
    let name : name_at pool k ≡ c.name = ap (λ (o : Option Candidate). option_map_or (λ (x : Candidate). x.name) o []) here in
    let names : least_name (asked_names pool t) ≡ Some c.name = least_named pool t k least ∙ ap Some name in
    let usable : is_eligible_with_positive_install_if pool.world c ≡ true = sym (some_at (is_eligible_with_positive_install_if pool.world) (candidate_at pool k) c here) ∙ least.usable in
    let applies : install_if_applies pool by c ≡ true = rw usable all in
    let there : IsIn c.name (names_whose_install_if_applies pool by) = in_map (λ (x : Candidate). x.name) c (filter (install_if_applies pool by) pool.candidates) (in_filter (install_if_applies pool by) c pool.candidates (there_is pool.candidates k c here).1 applies) in
    let need : IsIn (named c.name) (needs pool by) = in_right (named c.name) (needs_of_world_and_chosen pool by) (map named (names_whose_install_if_applies pool by)) (in_map named c.name (names_whose_install_if_applies pool by) there) in
    let open_now : IsFrameOf pool t ([], options_for pool (named c.name), by) =
    (named c.name, rw (none_raised pool t met) (ap (option_map named) names), refl, within, need, tt) in
    subst (λ (f : FrameValue). IsFrameOf pool t f) (sym is) open_now
