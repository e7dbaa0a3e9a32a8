-- Choices that meet the entries of an install-if.
use Rattle.std.proofs.Common.{◌≡◌, inl, inr, ℕ, zero, suc, ◌+◌, true, false, List, [], ◌∷◌, ◌++◌, take, refl, sym, subst, ap, ◌∙◌}
use Rattle.std.specs.Prelude.{Option, Some, None, is_some, slice_get, MatchOption}
use Rattle.std.proofs.lemmas.Bool.{and_parts, cases_Bool}
use Rattle.search_tables.proofs.candidate_core.Steps.{take_one_more}
use Rattle.dep_core.specs.Dependency.{Dependency}
use Rattle.search_tables.specs.candidate_core.Candidates.{Need, entry}
use Rattle.search_tables.specs.candidate_core.Rank.{SelectionProblem, meets_at}
use Rattle.search_tables.specs.candidate_core.Options.{IsIn}
use Rattle.search_tables.specs.Selection.{AreAllMembersOf, is_met}
use Rattle.search_needs.specs.TriggeredInstallIf.{all_met}
use Rattle.search_tables.proofs.Theory.{in_left, in_right, in_append}
use Rattle.search_tables.proofs.PoolFacts.{met_mono}
use Rattle.search_tables.proofs.Satisfying.{one_any}

module _ (pool : SelectionProblem) where
  pub is_met_by : (t : List ℕ) (need : Need) (o : Option ℕ) → MatchOption o (is_met pool t need ≡ false) (λ id. IsIn id t × (meets_at pool id need ≡ true)) → is_some o ≡ is_met pool t need
  is_met_by t need None m = sym m
  is_met_by t need (Some id) m = sym (one_any (λ c. meets_at pool c need) t id m.0 m.1)

  all_split : (t : List ℕ) (xs ys : List Dependency) → all_met pool t (xs ++ ys) ≡ true → (all_met pool t xs ≡ true) × (all_met pool t ys ≡ true)
  all_split t [] ys h = (refl, h)
  all_split t (x ∷ xs) ys h =
      let b = and_parts (is_met pool t (entry x)) (all_met pool t (xs ++ ys)) h in
      let r = all_split t xs ys b.1 in
      (rw b.0 r.0, r.1)

  all_join : (t : List ℕ) (xs ys : List Dependency) → all_met pool t xs ≡ true → all_met pool t ys ≡ true → all_met pool t (xs ++ ys) ≡ true
  all_join t [] ys h g = g
  all_join t (x ∷ xs) ys h g =
      let b = and_parts (is_met pool t (entry x)) (all_met pool t xs) h in
      rw b.0 (all_join t xs ys b.1 g)

  all_mono : (t u : List ℕ) (xs : List Dependency) → AreAllMembersOf t u → all_met pool t xs ≡ true → all_met pool u xs ≡ true
  all_mono t u [] sub h = refl
  all_mono t u (x ∷ xs) sub h =
      let b = and_parts (is_met pool t (entry x)) (all_met pool t xs) h in
      rw (met_mono pool (entry x) t u sub b.0) (all_mono t u xs sub b.1)

  -- one more entry is met by those chosen of the choices
  pub raisers_more : (t before after : List ℕ) (deps : List Dependency) (i : ℕ) (d : Dependency) → slice_get deps i ≡ Some d → (all_met pool t (take i deps) ≡ true → all_met pool before (take i deps) ≡ true) → AreAllMembersOf before after → (is_met pool t (entry d) ≡ true → is_met pool after (entry d) ≡ true) → all_met pool t (take (i + 1) deps) ≡ true → all_met pool after (take (i + 1) deps) ≡ true
  raisers_more t before after deps i d here was sub one h =
      let e : take (i + 1) deps ≡ take i deps ++ d ∷ [] = take_one_more deps i d here in
      let s = all_split t (take i deps) (d ∷ []) (ap (all_met pool t) (sym e) ∙ h) in
      let last = and_parts (is_met pool t (entry d)) true s.1 in
      ap (all_met pool after) e ∙ all_join after (take i deps) (d ∷ []) (all_mono before after (take i deps) sub (was s.0)) (rw (one last.0) refl)

  -- a step of a loop in which each is met, and one that is not
  pub all_met_on : (t : List ℕ) (deps : List Dependency) (i : ℕ) (d : Dependency) → slice_get deps i ≡ Some d → all_met pool t (take i deps) ≡ true → is_met pool t (entry d) ≡ true → all_met pool t (take (i + 1) deps) ≡ true
  all_met_on t deps i d here was one = ap (all_met pool t) (take_one_more deps i d here) ∙ all_join t (take i deps) (d ∷ []) was (rw one refl)

  pub one_not_met : (t : List ℕ) (deps : List Dependency) (i : ℕ) (d : Dependency) → slice_get deps i ≡ Some d → is_met pool t (entry d) ≡ false → all_met pool t deps ≡ false
  one_not_met t [] zero d here unmet = absurd (cc)
  one_not_met t [] (suc i) d here unmet = absurd (cc)
  one_not_met t (x ∷ xs) zero d here unmet =
      let e : x ≡ d = cc in
      let n : is_met pool t (entry x) ≡ false = subst (λ (z : Dependency). is_met pool t (entry z) ≡ false) (sym e) unmet in
      rw n refl
  one_not_met t (x ∷ xs) (suc i) d here unmet = elim (cases_Bool (is_met pool t (entry x))) [
    | inl e ↦ rw e (one_not_met t xs i d here unmet)
    | inr e ↦ rw e refl
  ]

  pub pushed_within : (by new t : List ℕ) (id : ℕ) → new ≡ by ++ id ∷ [] → IsIn id t → AreAllMembersOf by t → AreAllMembersOf new t
  pushed_within by new t id is there sub c h = elim (in_append c by (id ∷ []) (subst (λ (z : List ℕ). IsIn c z) is h)) [
    | inl a ↦ sub c a
    | inr b ↦ elim b [ inl e ↦ subst (λ (z : ℕ). IsIn z t) (sym e) there | inr bad ↦ absurd bad ]
  ]

  pub pushed_more : (by new : List ℕ) (id : ℕ) → new ≡ by ++ id ∷ [] → AreAllMembersOf by new
  pushed_more by new id is c h = subst (λ (z : List ℕ). IsIn c z) (sym is) (in_left c by (id ∷ []) h)

  pub pushed_met : (by new : List ℕ) (id : ℕ) (d : Dependency) → new ≡ by ++ id ∷ [] → meets_at pool id (entry d) ≡ true → is_met pool new (entry d) ≡ true
  pushed_met by new id d is meets = one_any (λ c. meets_at pool c (entry d)) new id (subst (λ (z : List ℕ). IsIn id z) (sym is) (in_right id by (id ∷ []) (inl refl))) meets
