-- What excludes a further candidate, and that nothing does if each name and each conflict of it is
-- free.
use Rattle.std.proofs.Common.{◌≡◌, inl, inr, ℕ, Bool, true, false, List, [], ◌∷◌, refl, sym, subst, ap, ◌∙◌}
use Rattle.std.specs.Prelude.{Option, Some, None, not, ◌&&◌, ◌||◌, ◌==◌, ◌⊎◌, is_some, MatchOption, find}
use Rattle.std.specs.Option.{option_map, option_map_or}
use Rattle.std.specs.List.{filter, flat_map, list_any}
use Rattle.std.specs.Str.{bytes_eq}
use Rattle.std.specs.Cmp.Lexicographic.{bytes_decides}
use Rattle.std.proofs.lemmas.Bool.Decides.{eqb_tells}
use Rattle.std.proofs.lemmas.Bool.{and_parts, or_cases, cases_Bool, both_ways}
use Rattle.pool_core.proofs.Filtered.{meeting_offers}
use Rattle.dep_core.specs.Dependency.{Dependency}
use Rattle.pool_core.specs.candidate_core.Candidates.{Candidate, entry, meets_dependency, occupies_name, offers_name}
use Rattle.pool_core.specs.candidate_core.Rank.{SelectionProblem, candidate_at, candidate_at_passes, meets_at}
use Rattle.pool_core.specs.candidate_core.Options.{IsIn}
use Rattle.search_tables.specs.Selection.{exclude_each_other, depends_at, is_conflict_of_first_met_by_second, is_met, occupied_names_at, occupied_names, does_exclude, share_a_name}
use Rattle.search_tables.specs.Conflicts.{conflicts_in, conflicts_of_name_in}
use Rattle.search_tables.specs.Excluders.{IsConflictTable, IsExcluderAmongChoices, IsNotExcludedAt}
use Rattle.search_tables.specs.declared.conflicts.Conflicts.{Conflicts}
use Rattle.search_tables.proofs.Theory.{in_append, in_left, in_right}
use Rattle.search_tables.proofs.PoolFacts.{filter_in, in_filter, in_map, map_in}
use Rattle.search_tables.proofs.Satisfying.{any_one, listed_is_occupied_at, occupied_is_listed_at, one_any, true_or}

abbrev Listed : Type 0
Listed = ℕ × Dependency

find_in : {X : Type 0} (p : X → Bool) (xs : List X) (x : X) → find p xs ≡ Some x → IsIn x xs × (p x ≡ true)
find_in p [] x h = absurd (cc)
find_in {X} p (y ∷ xs) x h = elim (cases_Bool (p y)) [
  | inl t ↦ let s : Some y ≡ Some x = rw t at h in let e : y ≡ x = cc in (inl (sym e), subst (λ (z : X). p z ≡ true) e t)
  | inr t ↦ let r = find_in p xs x (rw t at h) in (inr r.0, r.1)
]

none_in : {X : Type 0} (p : X → Bool) (xs : List X) (x : X) → find p xs ≡ None → IsIn x xs → p x ≡ false
none_in p [] x h there = absurd there
none_in {X} p (y ∷ xs) x h there = elim (cases_Bool (p y)) [
  | inl t ↦ let bad : Some y ≡ None = rw t at h in absurd (cc)
  | inr t ↦ elim there [
    | inl e ↦ subst (λ (z : X). p z ≡ false) (sym e) t
    | inr g ↦ none_in p xs x (rw t at h) g
  ]
]

flat_in : {X : Type 0} (f : ℕ → List X) (q : X) (xs : List ℕ) → IsIn q (flat_map f xs) → (c : ℕ) × IsIn c xs × IsIn q (f c)
flat_in f q [] h = absurd h
flat_in f q (x ∷ xs) h = elim (in_append q (f x) (flat_map f xs) h) [
  | inl a ↦ (x, inl refl, a)
  | inr b ↦ let r = flat_in f q xs b in (r.0, inr r.1, r.2)
]

in_flat : {X : Type 0} (f : ℕ → List X) (q : X) (c : ℕ) (xs : List ℕ) → IsIn c xs → IsIn q (f c) → IsIn q (flat_map f xs)
in_flat f q c [] h g = absurd h
in_flat {X} f q c (x ∷ xs) (inl e) g = in_left q (f x) (flat_map f xs) (subst (λ (z : ℕ). IsIn q (f z)) e g)
in_flat f q c (x ∷ xs) (inr h) g = in_right q (f x) (flat_map f xs) (in_flat f q c xs h g)

-- an entry of provides with a version occupies its name
pub occupied_by_entry : (c : Candidate) (p : Dependency) → IsIn p c.provides → p.conflict ≡ false → is_some p.version ≡ true → IsIn p.name (occupied_names c)
occupied_by_entry c p there plain versioned =
    let test : Dependency → Bool = λ (q : Dependency). not q.conflict && is_some q.version in
    inr (in_map (λ (q : Dependency). q.name) p (filter test c.provides) (in_filter test p c.provides there (rw (plain, versioned) refl)))

module _ (pool : SelectionProblem) (t : List ℕ) (id : ℕ) (details : Candidate) where
  different : (IsIn id t → ⊥) → (k : ℕ) → IsIn k t → (k == id) ≡ false
  different once k there = elim (eqb_tells k id) [
    | inl e ↦ absurd (once (subst (λ (z : ℕ). IsIn z t) e.1 there))
    | inr n ↦ n.0
  ]

  excludes_by : (IsIn id t → ⊥) → (k : ℕ) → IsIn k t → (does_exclude pool k id ≡ true) → IsExcluderAmongChoices pool t id k
  excludes_by once k there out = (there, let d = different once k there in rw (d, out) refl)

  excludes_back : (IsIn id t → ⊥) → (k : ℕ) → IsIn k t → (does_exclude pool id k ≡ true) → IsExcluderAmongChoices pool t id k
  excludes_back once k there out = (there, let d = different once k there in let o : (does_exclude pool k id || does_exclude pool id k) ≡ true = true_or (does_exclude pool k id) (does_exclude pool id k) (inr out) in rw (d, o) refl)

  at_id : candidate_at pool id ≡ Some details → (p : Candidate → Bool) → candidate_at_passes pool p id ≡ p details
  at_id here p = ap (λ (o : Option Candidate). option_map_or p o false) here

  deps_of_id : candidate_at pool id ≡ Some details → depends_at pool id ≡ details.depends
  deps_of_id here = ap (λ (o : Option Candidate). option_map_or (λ (c : Candidate). c.depends) o []) here

  names_of_id : candidate_at pool id ≡ Some details → occupied_names_at pool id ≡ occupied_names details
  names_of_id here = ap (λ (o : Option Candidate). option_map_or occupied_names o []) here

  -- a choice whose conflict is found excludes it
  pub found_against : (conflicts : Conflicts) (name : List ℕ) (k : ℕ) → IsConflictTable pool t conflicts → candidate_at pool id ≡ Some details → (IsIn id t → ⊥) → Some k ≡ option_map (λ (c : Listed). c.0) (find (λ (c : Listed). meets_dependency c.1 details) (conflicts_in conflicts.by_name name)) → IsExcluderAmongChoices pool t id k
  found_against conflicts name k listed here once found =
      let items = conflicts_in conflicts.by_name name in
      let one = some_of (find (λ (c : Listed). meets_dependency c.1 details) items) found in
      let f = find_in (λ (c : Listed). meets_dependency c.1 details) items one.0 one.1 in
      let g = flat_in (λ c. conflicts_of_name_in name c (depends_at pool c)) one.0 t (subst (λ (z : List Listed). IsIn one.0 z) (listed name) f.0) in
      let m = map_in (λ (d : Dependency). (g.0, d)) one.0 (filter (λ (d : Dependency). d.conflict && bytes_eq name d.name) (depends_at pool g.0)) g.2 in
      let h = filter_in (λ (d : Dependency). d.conflict && bytes_eq name d.name) m.0 (depends_at pool g.0) m.1 in
      let conflict = (and_parts m.0.conflict (bytes_eq name m.0.name) h.1).0 in
      let who : g.0 ≡ k = sym (ap (λ (c : Listed). c.0) m.2) ∙ one.2 in
      let meets : meets_dependency m.0 details ≡ true = subst (λ (c : Listed). meets_dependency c.1 details ≡ true) m.2 f.1 in
      let meets_there : candidate_at_passes pool (meets_dependency m.0) id ≡ true = at_id here (meets_dependency m.0) ∙ meets in
      let out : is_conflict_of_first_met_by_second pool g.0 id ≡ true = one_any (λ (d : Dependency). d.conflict && candidate_at_passes pool (meets_dependency d) id) (depends_at pool g.0) m.0 h.0 (rw conflict meets_there) in
      subst (λ (z : ℕ). IsExcluderAmongChoices pool t id z) who (excludes_by once g.0 g.1 (true_or (is_conflict_of_first_met_by_second pool g.0 id) (share_a_name pool g.0 id) (inl out)))
    where
      some_of : (o : Option Listed) → Some k ≡ option_map (λ (c : Listed). c.0) o → (c : Listed) × (o ≡ Some c) × (c.0 ≡ k)
      some_of None e = absurd (cc)
      some_of (Some c) e = (c, refl, cc)

  -- if none is found, it meets no conflict of this name
  pub none_against : (conflicts : Conflicts) (name : List ℕ) → IsConflictTable pool t conflicts → ((k : ℕ) → option_map (λ (c : Listed). c.0) (find (λ (c : Listed). meets_dependency c.1 details) (conflicts_in conflicts.by_name name)) ≡ Some k → ⊥) → (k : ℕ) (d : Dependency) → IsIn k t → IsIn d (depends_at pool k) → d.conflict ≡ true → d.name ≡ name → meets_dependency d details ≡ false
  none_against conflicts name listed never k d there has conflict is =
      let items = conflicts_in conflicts.by_name name in
      let same : bytes_eq name d.name ≡ true = (bytes_decides name d.name).1 (sym is) in
      let p : Dependency → Bool = λ (e : Dependency). e.conflict && bytes_eq name e.name in
      let member : IsIn (k, d) (conflicts_of_name_in name k (depends_at pool k)) = in_map (λ (e : Dependency). (k, e)) d (filter p (depends_at pool k)) (in_filter p d (depends_at pool k) has (rw conflict same)) in
      let all : IsIn (k, d) items = subst (λ (z : List Listed). IsIn (k, d) z) (sym (listed name)) (in_flat (λ c. conflicts_of_name_in name c (depends_at pool c)) (k, d) k t there member) in
      none_in (λ (c : Listed). meets_dependency c.1 details) items (k, d) (none_found (find (λ (c : Listed). meets_dependency c.1 details) items) never) all
    where
      none_found : (o : Option Listed) → ((k : ℕ) → option_map (λ (c : Listed). c.0) o ≡ Some k → ⊥) → o ≡ None
      none_found None never = refl
      none_found (Some c) never = absurd (never c.0 refl)

  -- a choice that occupies one of its names excludes it
  pub found_occupant : (name : List ℕ) (k : ℕ) → candidate_at pool id ≡ Some details → (IsIn id t → ⊥) → IsIn name (occupied_names details) → IsIn k t → candidate_at_passes pool (occupies_name name) k ≡ true → IsExcluderAmongChoices pool t id k
  found_occupant name k here once mine there occupies =
      let listed : IsIn name (occupied_names_at pool id) = subst (λ (z : List (List ℕ)). IsIn name z) (sym (names_of_id here)) mine in
      let share : share_a_name pool id k ≡ true = one_any (λ n. candidate_at_passes pool (occupies_name n) k) (occupied_names_at pool id) name listed occupies in
      excludes_back once k there (true_or (is_conflict_of_first_met_by_second pool id k) (share_a_name pool id k) (inr share))

  -- a choice that meets one of its conflicts excludes it
  pub found_meeting : (d : Dependency) (k : ℕ) → candidate_at pool id ≡ Some details → (IsIn id t → ⊥) → IsIn d details.depends → d.conflict ≡ true → IsIn k t → meets_at pool k (entry d) ≡ true → IsExcluderAmongChoices pool t id k
  found_meeting d k here once has conflict there meets =
      let mine : IsIn d (depends_at pool id) = subst (λ (z : List Dependency). IsIn d z) (sym (deps_of_id here)) has in
      let out : is_conflict_of_first_met_by_second pool id k ≡ true = one_any (λ (e : Dependency). e.conflict && candidate_at_passes pool (meets_dependency e) k) (depends_at pool id) d mine (rw conflict meets) in
      excludes_back once k there (true_or (is_conflict_of_first_met_by_second pool id k) (share_a_name pool id k) (inl out))

  -- no choice excludes it if all its names are free, and no choice meets a conflict of it
  pub no_excluder : candidate_at pool id ≡ Some details
      → IsNotExcludedAt pool t details details.name true
      → ((p : Dependency) → IsIn p details.provides → p.conflict ≡ false → IsNotExcludedAt pool t details p.name (is_some p.version))
      → ((d : Dependency) → IsIn d details.depends → d.conflict ≡ true → is_met pool t (entry d) ≡ false)
      → (k : ℕ) → IsIn k t → exclude_each_other pool k id ≡ false
  no_excluder here own provides conflicts k there = elim (cases_Bool (exclude_each_other pool k id)) [
    | inr e ↦ e
    | inl apart ↦
        let both = and_parts (not (k == id)) (does_exclude pool k id || does_exclude pool id k) apart in
        let shared : (name : List ℕ) → IsIn name (occupied_names_at pool id) → candidate_at_passes pool (occupies_name name) k ≡ true → ⊥ = λ name h occupies.
        elim (subst (λ (z : List (List ℕ)). IsIn name z) (names_of_id here) h) [
          | inl e ↦ both_ways (candidate_at_passes pool (occupies_name name) k) (subst (λ (n : List ℕ). candidate_at_passes pool (occupies_name n) k ≡ false) (sym e) (own.1 refl k there)) occupies
          | inr r ↦
              let m = map_in (λ (p : Dependency). p.name) name (filter (λ (p : Dependency). not p.conflict && is_some p.version) details.provides) r in
              let f = filter_in (λ (p : Dependency). not p.conflict && is_some p.version) m.0 details.provides m.1 in
              let two = and_parts (not m.0.conflict) (is_some m.0.version) f.1 in
              both_ways (candidate_at_passes pool (occupies_name name) k) (subst (λ (n : List ℕ). candidate_at_passes pool (occupies_name n) k ≡ false) (sym m.2) ((provides m.0 f.0 (not_true m.0.conflict two.0)).1 two.1 k there)) occupies
        ] in
        absurd (elim (or_cases (does_exclude pool k id) (does_exclude pool id k) both.1) [
          | inl a ↦ elim (or_cases (is_conflict_of_first_met_by_second pool k id) (share_a_name pool k id) a) [
            | inl x ↦
                let one = any_one (λ (d : Dependency). d.conflict && candidate_at_passes pool (meets_dependency d) id) (depends_at pool k) x in
                let two = and_parts one.0.conflict (candidate_at_passes pool (meets_dependency one.0) id) one.2 in
                let meets : meets_dependency one.0 details ≡ true = sym (at_id here (meets_dependency one.0)) ∙ two.1 in
                elim (offered_by one.0.name details (meeting_offers one.0 details meets)) [
                  | inl e ↦ both_ways (meets_dependency one.0 details) (own.0 k one.0 there one.1 two.0 e) meets
                  | inr p ↦ both_ways (meets_dependency one.0 details) ((provides p.0 p.1 p.3).0 k one.0 there one.1 two.0 p.2) meets
                ]
            | inr x ↦
                let one = any_one (λ name. candidate_at_passes pool (occupies_name name) id) (occupied_names_at pool k) x in
                shared one.0 (occupied_is_listed_at pool id one.0 one.2) (listed_is_occupied_at pool k one.0 one.1)
          ]
          | inr b ↦ elim (or_cases (is_conflict_of_first_met_by_second pool id k) (share_a_name pool id k) b) [
            | inl x ↦
                let one = any_one (λ (d : Dependency). d.conflict && candidate_at_passes pool (meets_dependency d) k) (depends_at pool id) x in
                let two = and_parts one.0.conflict (candidate_at_passes pool (meets_dependency one.0) k) one.2 in
                let mine : IsIn one.0 details.depends = subst (λ (z : List Dependency). IsIn one.0 z) (deps_of_id here) one.1 in
                both_ways (is_met pool t (entry one.0)) (conflicts one.0 mine two.0) (one_any (λ c. meets_at pool c (entry one.0)) t k there two.1)
            | inr x ↦
                let one = any_one (λ name. candidate_at_passes pool (occupies_name name) k) (occupied_names_at pool id) x in
                shared one.0 one.1 one.2
          ]
        ])
  ]
    where
      not_true : (b : Bool) → not b ≡ true → b ≡ false
      not_true true h = cc
      not_true false h = refl

      offered_by : (name : List ℕ) (c : Candidate) → offers_name name c ≡ true → (name ≡ c.name) ⊎ ((p : Dependency) × IsIn p c.provides × (name ≡ p.name) × (p.conflict ≡ false))
      offered_by name c h = elim (or_cases (bytes_eq name c.name) (list_any (λ (p : Dependency). not p.conflict && bytes_eq name p.name) c.provides) h) [
        | inl e ↦ inl ((bytes_decides name c.name).0 e)
        | inr e ↦
            let a = any_one (λ (p : Dependency). not p.conflict && bytes_eq name p.name) c.provides e in
            let b = and_parts (not a.0.conflict) (bytes_eq name a.0.name) a.2 in
            inr (a.0, a.1, (bytes_decides name a.0.name).0 b.1, not_true a.0.conflict b.0)
      ]

pub match_none : {X : Type 0} (o : Option X) (P Q : Type 0) (R : X → Type 0) → (P → Q) → MatchOption o P R → MatchOption o Q R
match_none None P Q R f m = f m
match_none (Some x) P Q R f m = m

pub match_both : {X : Type 0} (o : Option X) (P Q : Type 0) (R S : X → Type 0) → (P → Q) → ((x : X) → R x → S x) → MatchOption o P R → MatchOption o Q S
match_both None P Q R S f g m = f m
match_both (Some x) P Q R S f g m = g x m
