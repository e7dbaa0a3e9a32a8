-- What `list` and `search` ask for, in other words.
use Rattle.std.proofs.Common.{◌≡◌, ◌⊎◌, ◌↔◌, inl, inr, ℕ, suc, Bool, true, false, List, [], ◌∷◌, length, refl, sym, ap, subst, arith}
use Rattle.std.specs.Prelude.{is_some, not, ◌==◌, ◌||◌}
use Rattle.std.specs.List.{list_any}
use Rattle.std.proofs.lemmas.Bool.Decides.{Decides-eqb}
use Rattle.std.proofs.lemmas.Bool.{or_right, and_parts, or_cases, or_left, cases_Bool}
use Rattle.base_core.proofs.Booleans.{implied, implies}
use Rattle.pool_core.specs.candidate_core.Candidates.{Candidate}
use Rattle.pool_core.specs.candidate_core.Options.{IsIn}
use Rattle.command_core.specs.declared.operands.Operand.{Operand}
use Rattle.dep_core.specs.Dependency.{Dependency}
use Rattle.star_patterns.specs.Fills.{MatchesByFillingStars}
use Rattle.star_patterns.specs.Patterns.{is_whole_text_matched, matches_some_part}
use Rattle.query_core.specs.Asked.{IsOwnOrProvidedName, IsNameMatchedBySomePattern, HasPartMatchedBySomePattern, ProvidesName}
use Rattle.query_core.specs.List.{is_list_candidate, is_whole_name_matched_by_some_pattern}
use Rattle.query_core.specs.Search.{own_and_provided_names, is_part_of_name_matched_by_some_pattern, is_search_candidate, provided_names}
use Rattle.query_core.proofs.Parts.{found_in_part, part_found}
use Rattle.query_core.proofs.Runs.{is_in_at, passes_at}

pub any_in : {X : Type 0} (p : X → Bool) (xs : List X) (x : X) → IsIn x xs → p x ≡ true → list_any p xs ≡ true
any_in p [] x h e = absurd h
any_in {X} p (y ∷ xs) x (inl s) e = rw (subst (λ (z : X). p z ≡ true) s e) refl
any_in p (y ∷ xs) x (inr h) e = elim (cases_Bool (p y)) [ inl t ↦ rw t refl | inr t ↦ rw t (any_in p xs x h e) ]

empty : (patterns : List Operand) → (length patterns == 0) ≡ true → patterns ≡ []
empty [] h = refl
empty (o ∷ patterns) h = let bad : suc (length patterns) ≡ 0 = (Decides-eqb (suc (length patterns)) 0).0 h in absurd (omega (arith, bad))

module _ (law : (pattern text : List ℕ) → (is_whole_text_matched pattern text ≡ true) ↔ MatchesByFillingStars pattern text) where
  name_asked : (patterns : List Operand) (name : List ℕ) → is_whole_name_matched_by_some_pattern patterns name ≡ true → IsNameMatchedBySomePattern patterns name
  name_asked patterns name h =
      let found = passes_at (λ (o : Operand). is_whole_text_matched o.text name) patterns h in
      record { pattern = found.1.0; given = is_in_at patterns found.0 found.1.0 found.1.1.0; filled = (law found.1.0.text name).0 found.1.1.1 }

  asked_name : (patterns : List Operand) (name : List ℕ) → IsNameMatchedBySomePattern patterns name → is_whole_name_matched_by_some_pattern patterns name ≡ true
  asked_name patterns name asked = any_in (λ (o : Operand). is_whole_text_matched o.text name) patterns asked.pattern asked.given ((law asked.pattern.text name).1 asked.filled)

  part_asked : (patterns : List Operand) (name : List ℕ) → is_part_of_name_matched_by_some_pattern patterns name ≡ true → HasPartMatchedBySomePattern patterns name
  part_asked patterns name h =
      let found = passes_at (λ (o : Operand). matches_some_part o.text name) patterns h in
      let part = part_found found.1.0.text name found.1.1.1 in
      record {
        pattern = found.1.0;
        given = is_in_at patterns found.0 found.1.0 found.1.1.0;
        before = part.before;
        part = part.part;
        after = part.after;
        name_is = part.is;
        filled = (law found.1.0.text part.part).0 part.matched;
      }

  asked_part : (patterns : List Operand) (name : List ℕ) → HasPartMatchedBySomePattern patterns name → is_part_of_name_matched_by_some_pattern patterns name ≡ true
  asked_part patterns name asked =
      any_in (λ (o : Operand). matches_some_part o.text name) patterns asked.pattern asked.given
      (found_in_part asked.pattern.text asked.before asked.part asked.after name asked.name_is ((law asked.pattern.text asked.part).1 asked.filled))

  pub listed_if_asked : (patterns : List Operand) (installed_only : Bool) (c : Candidate) → (is_list_candidate patterns installed_only c ≡ true) ↔ (((patterns ≡ []) ⊎ IsNameMatchedBySomePattern patterns c.name) × (installed_only ≡ true → c.installed ≡ true))
  listed_if_asked patterns installed_only c = (
    (λ h.
        let both = and_parts (length patterns == 0 || is_whole_name_matched_by_some_pattern patterns c.name) (not installed_only || c.installed) h in (
          (elim (or_cases (length patterns == 0) (is_whole_name_matched_by_some_pattern patterns c.name) both.0) [ inl e ↦ inl (empty patterns e) | inr e ↦ inr (name_asked patterns c.name e) ]),
          implied installed_only c.installed both.1,
        )),
    (λ h.
        let first : (length patterns == 0 || is_whole_name_matched_by_some_pattern patterns c.name) ≡ true = elim h.0 [
          | inl e ↦ or_left (length patterns == 0) (is_whole_name_matched_by_some_pattern patterns c.name) (ap (λ (ps : List Operand). length ps == 0) e)
          | inr asked ↦ or_right (length patterns == 0) (is_whole_name_matched_by_some_pattern patterns c.name) (asked_name patterns c.name asked)
        ] in
        rw first (implies installed_only c.installed h.1)),
  )

  -- ---- names

  provided_next : (c : Candidate) (p : Dependency) (ps : List Dependency) (name : List ℕ) (b : Bool) → p.conflict ≡ b → ((q : Dependency) → IsIn q (p ∷ ps) → IsIn q c.provides) → (((q : Dependency) → IsIn q ps → IsIn q c.provides) → IsIn name (provided_names ps) → ProvidesName c name) → IsIn name (provided_names (p ∷ ps)) → ProvidesName c name
  provided_next c p ps name true e there again h = again (λ q m. there q (inr m)) (rw e at h)
  provided_next c p ps name false e there again h = elim (rw e at h) [
    | inl is ↦ record { entry = p; provided = there p (inl refl); no_conflict = e; name_is = sym is }
    | inr m ↦ again (λ q k. there q (inr k)) m
  ]

  provided : (c : Candidate) (ps : List Dependency) (name : List ℕ) → ((q : Dependency) → IsIn q ps → IsIn q c.provides) → IsIn name (provided_names ps) → ProvidesName c name
  provided c [] name there h = absurd h
  provided c (p ∷ ps) name there h = provided_next c p ps name p.conflict refl there (λ t m. provided c ps name t m) h

  in_provided : (ps : List Dependency) (p : Dependency) → IsIn p ps → p.conflict ≡ false → IsIn p.name (provided_names ps)
  in_provided [] p h e = absurd h
  in_provided (q ∷ ps) p (inl is) e = rw (subst (λ (r : Dependency). r.conflict ≡ false) is e) (inl (ap (λ (r : Dependency). r.name) is))
  in_provided (q ∷ ps) p (inr m) e = elim (cases_Bool (q.conflict)) [ inl t ↦ rw t (in_provided ps p m e) | inr t ↦ rw t (inr (in_provided ps p m e)) ]

  has_name : (c : Candidate) (name : List ℕ) → IsIn name (own_and_provided_names c) → IsOwnOrProvidedName c name
  has_name c name (inl is) = inl (sym is)
  has_name c name (inr m) = inr (provided c c.provides name (λ q k. k) m)

  name_in : (c : Candidate) (name : List ℕ) → IsOwnOrProvidedName c name → IsIn name (own_and_provided_names c)
  name_in c name (inl is) = inl (sym is)
  name_in c name (inr p) = inr (subst (λ (n : List ℕ). IsIn n (provided_names c.provides)) p.name_is (in_provided c.provides p.entry p.provided p.no_conflict))

  pub searched_if_asked : (patterns : List Operand) (c : Candidate) → (is_search_candidate patterns c ≡ true) ↔ ((is_some c.repository ≡ true) × ((name : List ℕ) × (IsOwnOrProvidedName c name × HasPartMatchedBySomePattern patterns name)))
  searched_if_asked patterns c = (
    (λ h.
        let both = and_parts (is_some c.repository) (list_any (is_part_of_name_matched_by_some_pattern patterns) (own_and_provided_names c)) h in
        let found = passes_at (is_part_of_name_matched_by_some_pattern patterns) (own_and_provided_names c) both.1 in
        let name : List ℕ = found.1.0 in
        (both.0, (name, (has_name c name (is_in_at (own_and_provided_names c) found.0 name found.1.1.0), part_asked patterns name found.1.1.1)))),
    (λ h. rw h.0 (any_in (is_part_of_name_matched_by_some_pattern patterns) (own_and_provided_names c) h.1.0 (name_in c h.1.0 h.1.1.0) (asked_part patterns h.1.0 h.1.1.1))),
  )
