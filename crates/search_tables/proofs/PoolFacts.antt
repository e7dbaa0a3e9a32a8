-- The facts of a pool, from the definitions and from what is promised of the options.
use Rattle.std.proofs.Common.{◌≡◌, ◌⊎◌, inl, inr, ℕ, Bool, true, false, List, [], ◌∷◌, ◌++◌, map, refl, sym, subst, ap, ◌∙◌}
use Rattle.std.specs.Prelude.{Option, Some, None, not, ◌||◌, ◌==◌}
use Rattle.std.specs.Option.{option_map}
use Rattle.std.specs.Ordering.{is_lt}
use Rattle.std.specs.Cmp.{nat_eq_equiv}
use Rattle.std.specs.List.{filter, find, flat_map, list_all, list_any}
use Rattle.std.proofs.lemmas.Bool.{cases_Bool}
use Rattle.dep_core.specs.Dependency.{Dependency}
use Rattle.pool_core.specs.candidate_core.Candidates.{Candidate, Need, entry, is_eligible_with_positive_install_if, named}
use Rattle.pool_core.specs.candidate_core.Rank.{SelectionProblem, bytes_cmp, is_eligible_at, is_better, meets_at}
use Rattle.pool_core.specs.candidate_core.Options.{IsIn, IsStrictlySortedBestFirst, options_for}
use Rattle.search_tables.specs.Selection.{AreAllMembersOf, AreDistinct, exclude_each_other, names_whose_install_if_applies, install_if_applies, depends_at, is_met, is_unmet, does_exclude, least_name, lesser_name, needs, positive_needs, next_need, needs_of_world_and_chosen}
use Rattle.search_tables.specs.Reasons.{AreCompatible}
use Rattle.search_tables.specs.Reasons.{HasOptions}
use Rattle.search_tables.proofs.Theory.{Sorted, sorted_split, in_left, in_right, in_append}
use Rattle.search_tables.proofs.Turns.{PoolFacts}

none_true : false ≡ true → ⊥
none_true e = cc

-- ---- membership

pub in_map : {X Y : Type 0} (f : X → Y) (x : X) (xs : List X) → IsIn x xs → IsIn (f x) (map f xs)
in_map f x [] h = absurd h
in_map f x (y ∷ xs) (inl e) = inl (ap f e)
in_map f x (y ∷ xs) (inr h) = inr (in_map f x xs h)

pub map_in : {X Y : Type 0} (f : X → Y) (y : Y) (xs : List X) → IsIn y (map f xs) → (x : X) × IsIn x xs × (y ≡ f x)
map_in f y [] h = absurd h
map_in f y (x ∷ xs) (inl e) = (x, inl refl, e)
map_in f y (x ∷ xs) (inr h) = let r = map_in f y xs h in (r.0, inr r.1, r.2)

pub filter_in : {X : Type 0} (p : X → Bool) (x : X) (xs : List X) → IsIn x (filter p xs) → IsIn x xs × (p x ≡ true)
filter_in p x [] h = absurd h
filter_in {X} p x (y ∷ xs) h = elim (cases_Bool (p y)) [
  | inl e ↦ elim (rw e at h) [
    | inl s ↦ (inl s, subst (λ (z : X). p z ≡ true) (sym s) e)
    | inr r ↦ let q = filter_in p x xs r in (inr q.0, q.1)
  ]
  | inr e ↦ let q = filter_in p x xs (rw e at h) in (inr q.0, q.1)
]

pub in_filter : {X : Type 0} (p : X → Bool) (x : X) (xs : List X) → IsIn x xs → p x ≡ true → IsIn x (filter p xs)
in_filter p x [] h e = absurd h
in_filter {X} p x (y ∷ xs) (inl s) e = rw (subst (λ (z : X). p z ≡ true) s e) (inl s)
in_filter p x (y ∷ xs) (inr h) e = elim (cases_Bool (p y)) [
  | inl t ↦ rw t (inr (in_filter p x xs h e))
  | inr t ↦ rw t (in_filter p x xs h e)
]

pub any_in : (p : ℕ → Bool) (xs : List ℕ) → list_any p xs ≡ true → (m : ℕ) × IsIn m xs × (p m ≡ true)
any_in p [] h = absurd (none_true h)
any_in p (x ∷ xs) h = elim (cases_Bool (p x)) [
  | inl e ↦ (x, inl refl, e)
  | inr e ↦ let r = any_in p xs (rw e at h) in (r.0, inr r.1, r.2)
]

pub in_any : (p : ℕ → Bool) (xs : List ℕ) (m : ℕ) → IsIn m xs → p m ≡ true → list_any p xs ≡ true
in_any p [] m h e = absurd h
in_any p (x ∷ xs) m (inl s) e = rw (subst (λ (z : ℕ). p z ≡ true) s e) refl
in_any p (x ∷ xs) m (inr h) e = elim (cases_Bool (p x)) [ inl t ↦ rw t refl | inr t ↦ rw t (in_any p xs m h e) ]

all_mono : {X : Type 0} (p q : X → Bool) (xs : List X) → ((x : X) → p x ≡ true → q x ≡ true) → list_all p xs ≡ true → list_all q xs ≡ true
all_mono p q [] to h = refl
all_mono p q (x ∷ xs) to h = elim (cases_Bool (p x)) [
  | inl e ↦ rw (to x e) (all_mono p q xs to (rw e at h))
  | inr e ↦ let bad : false ≡ true = rw e at h in absurd (none_true bad)
]

pub find_in : {X : Type 0} (p : X → Bool) (xs : List X) (x : X) → find p xs ≡ Some x → IsIn x xs × (p x ≡ true)
find_in p [] x h = absurd (cc)
find_in {X} p (y ∷ xs) x h = elim (cases_Bool (p y)) [
  | inl e ↦
      let g : Some y ≡ Some x = rw e at h in
      let s : x ≡ y = cc in
      (inl s, subst (λ (z : X). p z ≡ true) (sym s) e)
  | inr e ↦ let r = find_in p xs x (rw e at h) in (inr r.0, r.1)
]

find_none : {X : Type 0} (p : X → Bool) (xs : List X) (x : X) → find p xs ≡ None → IsIn x xs → p x ≡ false
find_none p [] x h g = absurd g
find_none {X} p (y ∷ xs) x h g = elim (cases_Bool (p y)) [
  | inl e ↦ let k : Some y ≡ None = rw e at h in absurd (cc)
  | inr e ↦ elim g [
    | inl s ↦ subst (λ (z : X). p z ≡ false) (sym s) e
    | inr r ↦ find_none p xs x (rw e at h) r
  ]
]

lesser_in : (x : List ℕ) (o : Option (List ℕ)) (xs : List (List ℕ)) → ((y : List ℕ) → o ≡ Some y → IsIn y xs) → IsIn (lesser_name x o) (x ∷ xs)
lesser_in x None xs h = inl refl
lesser_in x (Some y) xs h = elim (cases_Bool (is_lt (bytes_cmp y x))) [
  | inl e ↦ let is : lesser_name x (Some y) ≡ y = rw e refl in inr (subst (λ (z : List ℕ). IsIn z xs) (sym is) (h y refl))
  | inr e ↦ let is : lesser_name x (Some y) ≡ x = rw e refl in inl is
]

pub least_in : (xs : List (List ℕ)) (x : List ℕ) → least_name xs ≡ Some x → IsIn x xs
least_in [] x h = absurd (cc)
least_in (y ∷ xs) x h =
    let s : x ≡ lesser_name y (least_name xs) = cc in
    subst (λ (z : List ℕ). IsIn z (y ∷ xs)) (sym s) (lesser_in y (least_name xs) xs (λ z e. least_in xs z e))

pub least_none : (xs : List (List ℕ)) → least_name xs ≡ None → xs ≡ []
least_none [] h = refl
least_none (y ∷ xs) h = absurd (cc)

pub flat_in : (f : ℕ → List Need) (q : Need) (xs : List ℕ) → IsIn q (flat_map f xs) → (c : ℕ) × IsIn c xs × IsIn q (f c)
flat_in f q [] h = absurd h
flat_in f q (x ∷ xs) h = elim (in_append q (f x) (flat_map f xs) h) [
  | inl a ↦ (x, inl refl, a)
  | inr b ↦ let r = flat_in f q xs b in (r.0, inr r.1, r.2)
]

pub in_flat : (f : ℕ → List Need) (q : Need) (c : ℕ) (xs : List ℕ) → IsIn c xs → IsIn q (f c) → IsIn q (flat_map f xs)
in_flat f q c [] h g = absurd h
in_flat f q c (x ∷ xs) (inl e) g = in_left q (f x) (flat_map f xs) (subst (λ (z : ℕ). IsIn q (f z)) e g)
in_flat f q c (x ∷ xs) (inr h) g = in_right q (f x) (flat_map f xs) (in_flat f q c xs h g)

-- ---- needs

module _ (pool : SelectionProblem) where
  pub met_mono : (q : Need) (t u : List ℕ) → AreAllMembersOf t u → is_met pool t q ≡ true → is_met pool u q ≡ true
  met_mono q t u sub h =
      let r = any_in (λ c. meets_at pool c q) t h in
      in_any (λ c. meets_at pool c q) u r.0 (sub r.0 r.1) r.2

  raised_mono : (t u : List ℕ) (q : Need) → AreAllMembersOf t u → IsIn q (needs_of_world_and_chosen pool t) → IsIn q (needs_of_world_and_chosen pool u)
  raised_mono t u q sub h =
      let of : ℕ → List Need = λ c. positive_needs (depends_at pool c) in
      elim (in_append q (positive_needs pool.world) (flat_map of t) h) [
        | inl a ↦ in_left q (positive_needs pool.world) (flat_map of u) a
        | inr b ↦ let r = flat_in of q t b in in_right q (positive_needs pool.world) (flat_map of u) (in_flat of q r.0 u (sub r.0 r.1) r.2)
      ]

  asks_mono : (t u : List ℕ) (c : Candidate) → AreAllMembersOf t u → install_if_applies pool t c ≡ true → install_if_applies pool u c ≡ true
  asks_mono t u c sub h = elim (cases_Bool (is_eligible_with_positive_install_if pool.world c)) [
    | inl e ↦ rw e (all_mono (λ (d : Dependency). is_met pool t (entry d)) (λ (d : Dependency). is_met pool u (entry d)) c.install_if (λ d. met_mono (entry d) t u sub) (rw e at h))
    | inr e ↦ let bad : false ≡ true = rw e at h in absurd (none_true bad)
  ]

  asked_mono : (t u : List ℕ) (x : List ℕ) → AreAllMembersOf t u → IsIn x (names_whose_install_if_applies pool t) → IsIn x (names_whose_install_if_applies pool u)
  asked_mono t u x sub h =
      let name : Candidate → List ℕ = λ (c : Candidate). c.name in
      let m = map_in name x (filter (install_if_applies pool t) pool.candidates) h in
      let f = filter_in (install_if_applies pool t) m.0 pool.candidates m.1 in
      subst (λ (z : List ℕ). IsIn z (names_whose_install_if_applies pool u)) (sym m.2) (in_map name m.0 (filter (install_if_applies pool u) pool.candidates) (in_filter (install_if_applies pool u) m.0 pool.candidates f.0 (asks_mono t u m.0 sub f.1)))

  needs_mono : (t u : List ℕ) (q : Need) → AreAllMembersOf t u → IsIn q (needs pool t) → IsIn q (needs pool u)
  needs_mono t u q sub h = elim (in_append q (needs_of_world_and_chosen pool t) (map named (names_whose_install_if_applies pool t)) h) [
    | inl a ↦ in_left q (needs_of_world_and_chosen pool u) (map named (names_whose_install_if_applies pool u)) (raised_mono t u q sub a)
    | inr b ↦
        let m = map_in named q (names_whose_install_if_applies pool t) b in
        in_right q (needs_of_world_and_chosen pool u) (map named (names_whose_install_if_applies pool u)) (subst (λ (z : Need). IsIn z (map named (names_whose_install_if_applies pool u))) (sym m.2) (in_map named m.0 (names_whose_install_if_applies pool u) (asked_mono t u m.0 sub m.1)))
  ]

  some_or_none : {X : Type 0} (o : Option X) → (o ≡ None) ⊎ ((x : X) × (o ≡ Some x))
  some_or_none None = inl refl
  some_or_none (Some x) = inr (x, refl)

  not_false : (b : Bool) → not b ≡ true → b ≡ false
  not_false true h = absurd (none_true h)
  not_false false h = refl

  not_true : (b : Bool) → not b ≡ false → b ≡ true
  not_true true h = refl
  not_true false h = absurd (none_true (sym h))

  unmet_names : List ℕ → List (List ℕ)
  unmet_names t = filter (λ (x : List ℕ). is_unmet pool t (named x)) (names_whose_install_if_applies pool t)

  next_some : (t : List ℕ) (q : Need) → next_need pool t ≡ Some q → IsIn q (needs pool t) × (is_met pool t q ≡ false)
  unfolding next_need
  next_some t q h = elim (some_or_none (find (is_unmet pool t) (needs_of_world_and_chosen pool t))) [
    | inr some ↦
        let g : Some some.0 ≡ Some q = rw some.1 at h in
        let s : q ≡ some.0 = cc in
        let r = find_in (is_unmet pool t) (needs_of_world_and_chosen pool t) some.0 some.1 in (
          in_left q (needs_of_world_and_chosen pool t) (map named (names_whose_install_if_applies pool t)) (subst (λ (z : Need). IsIn z (needs_of_world_and_chosen pool t)) (sym s) r.0),
          subst (λ (z : Need). is_met pool t z ≡ false) (sym s) (not_false (is_met pool t some.0) r.1),
        )
    | inl none ↦
        let g = rw none at h in
        let names = filter (λ (x : List ℕ). is_unmet pool t (named x)) (names_whose_install_if_applies pool t) in
        elim (some_or_none (least_name names)) [
          | inl e ↦ let k : None ≡ Some q = subst (λ (o : Option (List ℕ)). option_map named o ≡ Some q) e g in absurd (cc)
          | inr some ↦
              let k : Some (named some.0) ≡ Some q = subst (λ (o : Option (List ℕ)). option_map named o ≡ Some q) some.1 g in
              let s : q ≡ named some.0 = cc in
              let f = filter_in (λ (x : List ℕ). is_unmet pool t (named x)) some.0 (names_whose_install_if_applies pool t) (least_in names some.0 some.1) in (
                in_right q (needs_of_world_and_chosen pool t) (map named (names_whose_install_if_applies pool t)) (subst (λ (z : Need). IsIn z (map named (names_whose_install_if_applies pool t))) (sym s) (in_map named some.0 (names_whose_install_if_applies pool t) f.0)),
                subst (λ (z : Need). is_met pool t z ≡ false) (sym s) (not_false (is_met pool t (named some.0)) f.1),
              )
        ]
  ]

  pub next_none : (t : List ℕ) (q : Need) → next_need pool t ≡ None → IsIn q (needs pool t) → is_met pool t q ≡ true
  unfolding next_need
  next_none t q h inside = elim (some_or_none (find (is_unmet pool t) (needs_of_world_and_chosen pool t))) [
    | inr some ↦ let g : Some some.0 ≡ None = rw some.1 at h in absurd (cc)
    | inl none ↦
        let g = rw none at h in
        let names = filter (λ (x : List ℕ). is_unmet pool t (named x)) (names_whose_install_if_applies pool t) in
        elim (in_append q (needs_of_world_and_chosen pool t) (map named (names_whose_install_if_applies pool t)) inside) [
          | inl a ↦ not_true (is_met pool t q) (find_none (is_unmet pool t) (needs_of_world_and_chosen pool t) q none a)
          | inr b ↦
              let m = map_in named q (names_whose_install_if_applies pool t) b in
              let no_names : names ≡ [] = elim (some_or_none (least_name names)) [
                | inl e ↦ least_none names e
                | inr some ↦ let k : Some (named some.0) ≡ None = subst (λ (o : Option (List ℕ)). option_map named o ≡ None) some.1 g in absurd (cc)
              ] in
              elim (cases_Bool (is_met pool t (named m.0))) [
                | inl e ↦ subst (λ (z : Need). is_met pool t z ≡ true) (sym m.2) e
                | inr e ↦ absurd (subst (λ (z : List (List ℕ)). IsIn m.0 z) no_names (in_filter (λ (x : List ℕ). is_unmet pool t (named x)) m.0 (names_whose_install_if_applies pool t) m.1 (ap not e)))
              ]
        ]
  ]

  or_flip : (a b : Bool) → (a || b) ≡ (b || a)
  or_flip true true = refl
  or_flip true false = refl
  or_flip false true = refl
  or_flip false false = refl

  eq_flip : (a b : ℕ) → (a == b) ≡ (b == a)
  eq_flip a b = nat_eq_equiv.symm a b

  apart_flip : (a b : ℕ) → exclude_each_other pool a b ≡ true → exclude_each_other pool b a ≡ true
  apart_flip a b h =
      rw (eq_flip b a) (rw (or_flip (does_exclude pool b a) (does_exclude pool a b)) h)

  apart_self : (a : ℕ) → exclude_each_other pool a a ≡ true → ⊥
  apart_self a h = let same : (a == a) ≡ true = nat_eq_equiv.refl a in let bad : false ≡ true = rw same at h in none_true bad

  ranked_sorted : (q : Need) (xs : List ℕ) → IsStrictlySortedBestFirst (is_better pool q) xs → Sorted (λ a b. is_better pool q a b ≡ true) xs
  ranked_sorted q [] r = tt
  ranked_sorted q (x ∷ xs) r = (r.0, ranked_sorted q xs r.1)

  distinct_more : (ids : List ℕ) (id : ℕ) → AreDistinct ids → (IsIn id ids → ⊥) → AreDistinct (ids ++ id ∷ [])
  distinct_more [] id once out = ((λ h. h), tt)
  distinct_more (x ∷ ids) id once out = (
    (λ h. elim (in_append x ids (id ∷ []) h) [
      | inl a ↦ once.0 a
      | inr b ↦ elim b [ inl e ↦ out (inl (sym e)) | inr bad ↦ bad ]
    ]),
    distinct_more ids id once.1 (λ h. out (inr h)),
  )

  last_is : (P : ℕ → Type 0) (c o : ℕ) → P c → IsIn o (c ∷ []) → P o
  last_is P c o h (inl e) = subst P (sym e) h
  last_is P c o h (inr bad) = absurd bad

  clean_more : (t : List ℕ) (c : ℕ) → AreCompatible pool t → is_eligible_at pool c ≡ true → (IsIn c t → ⊥) → ((m : ℕ) → IsIn m t → exclude_each_other pool m c ≡ true → ⊥) → AreCompatible pool (t ++ c ∷ [])
  clean_more t c clean eligible out free = (
    distinct_more t c clean.0 out,
    (λ o h. elim (in_append o t (c ∷ []) h) [
      | inl a ↦ clean.1 o a
      | inr b ↦ last_is (λ (z : ℕ). is_eligible_at pool z ≡ true) c o eligible b
    ]),
    λ a b ha hb ap. elim (in_append a t (c ∷ []) ha) [
      | inl at_a ↦ elim (in_append b t (c ∷ []) hb) [
        | inl at_b ↦ clean.2 a b at_a at_b ap
        | inr last ↦ last_is (λ (z : ℕ). exclude_each_other pool a z ≡ true → ⊥) c b (free a at_a) last ap
      ]
      | inr last_a ↦ elim (in_append b t (c ∷ []) hb) [
        | inl at_b ↦ last_is (λ (z : ℕ). exclude_each_other pool z b ≡ true → ⊥) c a (λ bad. free b at_b (apart_flip c b bad)) last_a ap
        | inr last ↦ last_is (λ (z : ℕ). exclude_each_other pool z b ≡ true → ⊥) c a (last_is (λ (z : ℕ). exclude_each_other pool c z ≡ true → ⊥) c b (apart_self c) last) last_a ap
      ]
    ],
  )

pub pool_facts : (pool : SelectionProblem) → ((need : Need) → HasOptions pool need) → PoolFacts pool
pool_facts pool has = record {
  needs_mono = needs_mono pool;
  next_some = λ t q e. let r = next_some pool t q e in (r.0, λ m. let is : is_met pool t q ≡ true = in_any (λ c. meets_at pool c q) t m.0 m.1 m.2 in let no = r.1 in none_true (sym no ∙ is));
  next_none = λ t q e h. any_in (λ c. meets_at pool c q) t (next_none pool t q e h);
  clean_good = λ S c clean h. clean.1 c h;
  clean_apart = λ S a b clean ha hb bad. clean.2 a b ha hb bad;
  listed = λ q c eligible meets. (has q).each c eligible meets;
  only = λ q c h. (has q).those c h;
  clean_snoc = λ t c clean eligible out free. clean_more pool t c clean eligible out free;
  split = λ q xs ys c o e h.
      let R : ℕ → ℕ → Type 0 = λ a b. is_better pool q a b ≡ true in
      sorted_split R xs ys c o (subst (λ (z : List ℕ). Sorted R z) e (ranked_sorted pool q (options_for pool q) (has q).best_first)) (subst (λ (z : List ℕ). IsIn o z) e h);
}
