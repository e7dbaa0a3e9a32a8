-- Satisfying selections, as the definition has them and as the search sees them.
use Rattle.std.proofs.Common.{◌≡◌, ◌≢◌, ◌⊎◌, inl, inr, ℕ, Bool, true, false, List, [], ◌∷◌, map, refl, sym, subst, ap, ◌∙◌}
use Rattle.std.specs.Prelude.{Option, Some, None, not, ◌&&◌, ◌||◌, ◌==◌, is_some}
use Rattle.std.specs.Option.{option_map, option_map_or}
use Rattle.std.specs.List.{filter, find, flat_map, list_any}
use Rattle.std.specs.Str.{bytes_eq}
use Rattle.std.proofs.lemmas.Bool.Decides.{eqb_tells}
use Rattle.std.specs.Cmp.Lexicographic.{bytes_decides}
use Rattle.std.proofs.lemmas.Bool.{and_parts, or_cases, cases_Bool}
use Rattle.dep_core.specs.Dependency.{Dependency}
use Rattle.pool_core.specs.candidate_core.Candidates.{Candidate, Need, named, occupies_name}
use Rattle.pool_core.specs.candidate_core.Rank.{SelectionProblem, candidate_at, candidate_at_passes}
use Rattle.pool_core.specs.candidate_core.Options.{IsIn}
use Rattle.search_tables.specs.Selection.{IsSatisfying, exclude_each_other, names_whose_install_if_applies, depends_at, is_conflict_of_first_met_by_second, occupied_names_at, occupied_names, is_unmet, does_exclude, least_name, needs, positive_needs, next_need, needs_of_world_and_chosen, share_a_name}
use Rattle.search_tables.specs.Reasons.{IsSolution}
use Rattle.search_tables.proofs.Theory.{in_left, in_right, in_append}
use Rattle.search_tables.proofs.PoolFacts.{filter_in, in_filter, in_map, map_in, flat_in, in_flat, next_none}

pub true_or : (p q : Bool) → (p ≡ true) ⊎ (q ≡ true) → (p || q) ≡ true
true_or true q h = refl
true_or false q (inl e) = absurd (cc)
true_or false q (inr e) = e

pub any_one : {X : Type 0} (p : X → Bool) (xs : List X) → list_any p xs ≡ true → (x : X) × IsIn x xs × (p x ≡ true)
any_one p [] h = absurd (cc)
any_one p (x ∷ xs) h = elim (cases_Bool (p x)) [
  | inl e ↦ (x, inl refl, e)
  | inr e ↦ let r = any_one p xs (rw e at h) in (r.0, inr r.1, r.2)
]

pub one_any : {X : Type 0} (p : X → Bool) (xs : List X) (x : X) → IsIn x xs → p x ≡ true → list_any p xs ≡ true
one_any p [] x h e = absurd h
one_any {X} p (y ∷ xs) x (inl s) e = rw (subst (λ (z : X). p z ≡ true) s e) refl
one_any p (y ∷ xs) x (inr h) e = elim (cases_Bool (p y)) [ inl t ↦ rw t refl | inr t ↦ rw t (one_any p xs x h e) ]

same_bytes : (a b : List ℕ) → bytes_eq a b ≡ true → a ≡ b
same_bytes a b h = (bytes_decides a b).0 h

bytes_same : (a b : List ℕ) → a ≡ b → bytes_eq a b ≡ true
bytes_same a b e = (bytes_decides a b).1 e

provides_alone : List ℕ → Dependency → Bool
provides_alone name p = not p.conflict && (is_some p.version && bytes_eq name p.name)

listed_is_occupied : (k : Candidate) (name : List ℕ) → IsIn name (occupied_names k) → occupies_name name k ≡ true
listed_is_occupied k name (inl e) = true_or (bytes_eq name k.name) _ (inl (bytes_same name k.name e))
listed_is_occupied k name (inr h) =
    let of : Dependency → List ℕ = λ (p : Dependency). p.name in
    let alone : Dependency → Bool = λ (p : Dependency). not p.conflict && is_some p.version in
    let m = map_in of name (filter alone k.provides) h in
    let f = filter_in alone m.0 k.provides m.1 in
    let both = and_parts (not m.0.conflict) (is_some m.0.version) f.1 in
    true_or (bytes_eq name k.name) (list_any (λ (p : Dependency). not p.conflict && (is_some p.version && bytes_eq name p.name)) k.provides)
    (inr (one_any (λ (p : Dependency). not p.conflict && (is_some p.version && bytes_eq name p.name)) k.provides m.0 f.0 (rw both.0 (rw both.1 (bytes_same name m.0.name m.2)))))

occupied_is_listed : (k : Candidate) (name : List ℕ) → occupies_name name k ≡ true → IsIn name (occupied_names k)
occupied_is_listed k name h = elim (or_cases (bytes_eq name k.name) (list_any (λ (p : Dependency). not p.conflict && (is_some p.version && bytes_eq name p.name)) k.provides) h) [
  | inl e ↦ inl (same_bytes name k.name e)
  | inr e ↦
      let of : Dependency → List ℕ = λ (p : Dependency). p.name in
      let alone : Dependency → Bool = λ (p : Dependency). not p.conflict && is_some p.version in
      let a = any_one (λ (p : Dependency). not p.conflict && (is_some p.version && bytes_eq name p.name)) k.provides e in
      let one = and_parts (not a.0.conflict) (is_some a.0.version && bytes_eq name a.0.name) a.2 in
      let two = and_parts (is_some a.0.version) (bytes_eq name a.0.name) one.1 in
      let f : IsIn a.0 (filter alone k.provides) = in_filter alone a.0 k.provides a.1 (rw one.0 two.0) in
      inr (subst (λ (z : List ℕ). IsIn z (map of (filter alone k.provides))) (sym (same_bytes name a.0.name two.1)) (in_map of a.0 (filter alone k.provides) f))
]

module _ (pool : SelectionProblem) where
  pub listed_is_occupied_at : (a : ℕ) (name : List ℕ) → IsIn name (occupied_names_at pool a) → candidate_at_passes pool (occupies_name name) a ≡ true
  listed_is_occupied_at a name h = by (candidate_at pool a) h
    where
      by : (o : Option Candidate) → IsIn name (option_map_or occupied_names o []) → option_map_or (occupies_name name) o false ≡ true
      by None h = absurd h
      by (Some k) h = listed_is_occupied k name h

  pub occupied_is_listed_at : (a : ℕ) (name : List ℕ) → candidate_at_passes pool (occupies_name name) a ≡ true → IsIn name (occupied_names_at pool a)
  occupied_is_listed_at a name h = by (candidate_at pool a) h
    where
      by : (o : Option Candidate) → option_map_or (occupies_name name) o false ≡ true → IsIn name (option_map_or occupied_names o [])
      by None h = absurd (cc)
      by (Some k) h = occupied_is_listed k name h

  module _ (S : List ℕ) where
    kept_out : IsSatisfying pool S → (a b : ℕ) → IsIn a S → IsIn b S → a ≢ b → does_exclude pool a b ≡ true → ⊥
    kept_out s a b ha hb n h = elim (or_cases (is_conflict_of_first_met_by_second pool a b) (share_a_name pool a b) h) [
      | inl e ↦ let no_way : true ≡ false = sym e ∙ s.no_conflict a b ha hb n in absurd (cc)
      | inr e ↦
          let one = any_one (λ name. candidate_at_passes pool (occupies_name name) b) (occupied_names_at pool a) e in
          n (s.names_alone a b one.0 ha hb (listed_is_occupied_at a one.0 one.1) one.2)
    ]

    find_nothing : {X : Type 0} (p : X → Bool) (xs : List X) → ((x : X) → IsIn x xs → p x ≡ false) → find p xs ≡ None
    find_nothing p [] all = refl
    find_nothing p (x ∷ xs) all = rw (all x (inl refl)) (find_nothing p xs (λ y h. all y (inr h)))

    filter_nothing : {X : Type 0} (p : X → Bool) (xs : List X) → ((x : X) → IsIn x xs → p x ≡ false) → filter p xs ≡ []
    filter_nothing p [] all = refl
    filter_nothing p (x ∷ xs) all = rw (all x (inl refl)) (filter_nothing p xs (λ y h. all y (inr h)))

    no_need : IsSatisfying pool S → next_need pool S ≡ None
    unfolding next_need
    no_need s =
        let of : ℕ → List Need = λ c. positive_needs (depends_at pool c) in
        let first : find (is_unmet pool S) (needs_of_world_and_chosen pool S) ≡ None = find_nothing (is_unmet pool S) (needs_of_world_and_chosen pool S) (λ q h. elim (in_append q (positive_needs pool.world) (flat_map of S) h) [
          | inl a ↦ ap not (s.world_met q a)
          | inr b ↦ let r = flat_in of q S b in ap not (s.depends_met r.0 q r.1 r.2)
        ]) in
        let second : filter (λ name. is_unmet pool S (named name)) (names_whose_install_if_applies pool S) ≡ [] = filter_nothing (λ name. is_unmet pool S (named name)) (names_whose_install_if_applies pool S) (λ name h. ap not (s.asked_met name h)) in
        rw first (ap (λ (names : List (List ℕ)). option_map named (least_name names)) second)

    pub closed_of_satisfying : IsSatisfying pool S → IsSolution pool S
    closed_of_satisfying s = (
      (
        s.once,
        s.eligible,
        λ a b ha hb h.
            let both = and_parts (not (a == b)) (does_exclude pool a b || does_exclude pool b a) h in
            elim (eqb_tells a b) [
              | inl e ↦ let bad : not (a == b) ≡ false = ap not e.0 in let k : true ≡ false = sym both.0 ∙ bad in absurd (cc)
              | inr n ↦ elim (or_cases (does_exclude pool a b) (does_exclude pool b a) both.1) [
                | inl k ↦ kept_out s a b ha hb n.1 k
                | inr k ↦ kept_out s b a hb ha (λ e. n.1 (sym e)) k
              ]
            ],
      ),
      no_need s,
    )

    apart_of : (a b : ℕ) → a ≢ b → does_exclude pool a b ≡ true → exclude_each_other pool a b ≡ true
    apart_of a b n k = elim (eqb_tells a b) [
      | inl e ↦ absurd (n e.1)
      | inr f ↦ rw f.0 (rw k refl)
    ]

    pub satisfying_of_closed : IsSolution pool S → IsSatisfying pool S
    satisfying_of_closed closed =
        let clean = closed.0 in
        let all = λ (q : Need) (h : IsIn q (needs pool S)). next_none pool S q closed.1 h in
        let of : ℕ → List Need = λ c. positive_needs (depends_at pool c) in
        record {
          once = clean.0;
          eligible = clean.1;
          world_met = λ q h. all q (in_left q (needs_of_world_and_chosen pool S) (map named (names_whose_install_if_applies pool S)) (in_left q (positive_needs pool.world) (flat_map of S) h));
          depends_met = λ k q hk h. all q (in_left q (needs_of_world_and_chosen pool S) (map named (names_whose_install_if_applies pool S)) (in_right q (positive_needs pool.world) (flat_map of S) (in_flat of q k S hk h)));
          no_conflict = λ a b ha hb n. elim (cases_Bool (is_conflict_of_first_met_by_second pool a b)) [
            | inl e ↦ absurd (clean.2 a b ha hb (apart_of a b n (true_or (is_conflict_of_first_met_by_second pool a b) (share_a_name pool a b) (inl e))))
            | inr e ↦ e
          ];
          names_alone = λ a b name ha hb holds_a holds_b. elim (eqb_tells a b) [
            | inl e ↦ e.1
            | inr n ↦ absurd (clean.2 a b ha hb (apart_of a b n.1 (true_or (is_conflict_of_first_met_by_second pool a b) (share_a_name pool a b) (inr (one_any (λ x. candidate_at_passes pool (occupies_name x) b) (occupied_names_at pool a) name (occupied_is_listed_at a name holds_a) holds_b)))))
          ];
          asked_met = λ name h. all (named name) (in_right (named name) (needs_of_world_and_chosen pool S) (map named (names_whose_install_if_applies pool S)) (in_map named name (names_whose_install_if_applies pool S) h));
        }
