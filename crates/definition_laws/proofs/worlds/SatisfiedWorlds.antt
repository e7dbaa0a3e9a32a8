-- The candidates that a first selection takes satisfy world, and each is needed.
use Rattle.std.proofs.Common.{◌≡◌, inl, inr, ℕ, zero, suc, Bool, true, false, true≢false, not, eqb, List, [], ◌∷◌, ◌++◌, Option, Some, None, refl, ap, sym, subst, ◌∙◌}
use Rattle.std.specs.Prelude.{◌&&◌, slice_get}
use Rattle.std.specs.Option.{option_map_or}
use Rattle.std.specs.List.{filter, filter_map, list_all}
use Rattle.std.proofs.lemmas.Bool.{and_from, and_parts, eqb-false, eqb-true, not_from_false}
use Rattle.std.proofs.lemmas.Slice.Eq.{bytes_eq-Decides}
use Rattle.dep_core.specs.Dependency.{Dependency}
use Rattle.engine_core.specs.candidate_core.Candidates.{Candidate, Need, entry, named, is_eligible_with_positive_install_if, is_allowed_by_tags_of_world, is_barred_by_world, is_eligible, meets_dependency, meets_dependency_or_has_package_name, occupies_name}
use Rattle.engine_core.specs.candidate_core.Options.{IsIn}
use Rattle.engine_core.specs.candidate_core.Rank.{SelectionProblem, candidate_at, candidate_at_passes, meets_at}
use Rattle.engine_core.specs.package_changes.Placed.{candidates_at}
use Rattle.engine_core.specs.search_tables.Selection.{IsBestMember, IsSatisfying, IsRestOfSelectionWalkAfterChosen, is_conflict_of_first_met_by_second, depends_at, install_if_applies, is_met, names_whose_install_if_applies, next_need, positive_needs}
use Rattle.engine_core.proofs.search_tables.PoolFacts.{any_in, in_filter, in_map}
use Rattle.definition_laws.specs.worlds.NextNeed.{IsFirstUnmet, IsMetByChoice, IsNextNeedOrNone}
use Rattle.definition_laws.specs.worlds.SatisfiedWorld.{InstallIfApplies, IsNeededByWorldOrPackages, IsMetByOne, MeetsOneDependency, SatisfyWorld}
use Rattle.definition_laws.proofs.worlds.InstalledCounted.{in_append, in_right}
use Rattle.definition_laws.proofs.worlds.InstalledCounted as Lists

-- ---- candidates at places

pub at_in : (pool : SelectionProblem) (places : List ℕ) (place : ℕ) (c : Candidate) → IsIn place places → candidate_at pool place ≡ Some c → IsIn c (candidates_at pool places)
at_in pool [] place c here e = absurd here
at_in pool (p ∷ places) place c here e = by (candidate_at pool p) refl here (λ behind. at_in pool places place c behind e)
  where
    by : (o : Option Candidate) → candidate_at pool p ≡ o → IsIn place (p ∷ places) → (IsIn place places → IsIn c (candidates_at pool places)) → IsIn c (filter_map (candidate_at pool) (p ∷ places))
    by None f (inl is) more = let both : Some c ≡ None = sym e ∙ (ap (candidate_at pool) is ∙ f) in absurd (cc (both))
    by None f (inr behind) more = rw f (more behind)
    by (Some d) f (inl is) more = let both : Some c ≡ Some d = sym e ∙ (ap (candidate_at pool) is ∙ f) in let same : c ≡ d = cc in rw f (inl same)
    by (Some d) f (inr behind) more = rw f (inr (more behind))

-- a place of some leads to the candidate
abbrev pub IsLedTo : SelectionProblem → Candidate → List ℕ → Type 0
IsLedTo pool c places = (place : ℕ) × IsIn place places × (candidate_at pool place ≡ Some c)

pub in_at : (pool : SelectionProblem) (places : List ℕ) (c : Candidate) → IsIn c (candidates_at pool places) → IsLedTo pool c places
in_at pool [] c here = absurd here
in_at pool (p ∷ places) c here = by (candidate_at pool p) refl (λ behind. in_at pool places c behind)
  where
    further : IsLedTo pool c places → IsLedTo pool c (p ∷ places)
    further rest = (rest.0, inr rest.1, rest.2)

    by : (o : Option Candidate) → candidate_at pool p ≡ o → (IsIn c (candidates_at pool places) → IsLedTo pool c places) → IsLedTo pool c (p ∷ places)
    by None f more = further (more (rw f at here))
    by (Some d) f more = elim (rw f at here) [ inl is ↦ (p, inl refl, f ∙ ap Some (sym is)) | inr behind ↦ further (more behind) ]

pub test_at : (pool : SelectionProblem) (test : Candidate → Bool) (place : ℕ) (c : Candidate) → candidate_at pool place ≡ Some c → candidate_at_passes pool test place ≡ test c
test_at pool test place c e = ap (λ o. option_map_or test o false) e

pub at_test : (pool : SelectionProblem) (test : Candidate → Bool) (place : ℕ) → candidate_at_passes pool test place ≡ true → (c : Candidate) × (candidate_at pool place ≡ Some c) × (test c ≡ true)
at_test pool test place e = by (candidate_at pool place) refl
  where
    by : (o : Option Candidate) → candidate_at pool place ≡ o → (c : Candidate) × (candidate_at pool place ≡ Some c) × (test c ≡ true)
    by None f = let off : candidate_at_passes pool test place ≡ false = ap (λ o. option_map_or test o false) f in absurd (true≢false (sym e ∙ off))
    by (Some c) f = (c, f, sym (test_at pool test place c f) ∙ e)

-- ---- a satisfying selection

module _ (pool : SelectionProblem) (trace : List ℕ) (are : IsSatisfying pool trace) where
  abbrev packages : List Candidate
  packages = candidates_at pool trace

  one_met : (d : Dependency) → is_met pool trace (entry d) ≡ true → IsMetByOne packages d
  one_met d e =
      let one = any_in (λ c. meets_at pool c (entry d)) trace e in
      let c = at_test pool (meets_dependency_or_has_package_name (entry d)) one.0 one.2 in
      (c.0, at_in pool trace one.0 c.0 one.1 c.1, c.2)

  met_one : (d : Dependency) → IsMetByOne packages d → is_met pool trace (entry d) ≡ true
  met_one d one =
      let place = in_at pool trace one.0 one.1 in
      Lists.in_any (λ c. meets_at pool c (entry d)) trace place.0 place.1 (test_at pool (meets_dependency_or_has_package_name (entry d)) place.0 one.0 place.2 ∙ one.2)

  as_need : (d : Dependency) (deps : List Dependency) → IsIn d deps → d.conflict ≡ false → IsIn (entry d) (positive_needs deps)
  as_need d deps here off =
      in_map entry d (filter (λ (x : Dependency). not x.conflict) deps) (in_filter (λ (x : Dependency). not x.conflict) d deps here (not_from_false d.conflict off))

  depends_of : (place : ℕ) (c : Candidate) → candidate_at pool place ≡ Some c → depends_at pool place ≡ c.depends
  depends_of place c e = ap (λ o. option_map_or (λ (k : Candidate). k.depends) o []) e

  eligible : (c : Candidate) → IsIn c packages → is_eligible pool.world c ≡ true
  eligible c here =
      let place = in_at pool trace c here in
      sym (test_at pool (is_eligible pool.world) place.0 c place.2) ∙ are.eligible place.0 place.1

  not_barred : (c : Candidate) (d : Dependency) → IsIn c packages → IsIn d pool.world → d.conflict ≡ true → meets_dependency d c ≡ false
  not_barred c d here among on = by (meets_dependency d c) refl (is_barred_by_world pool.world c) refl
    where
      by : (t : Bool) → meets_dependency d c ≡ t → (b : Bool) → is_barred_by_world pool.world c ≡ b → t ≡ false
      by false e b f = refl
      by true e true f =
          let parts = and_parts (is_allowed_by_tags_of_world pool.world c) (not (is_barred_by_world pool.world c)) (eligible c here) in
          let bad : not true ≡ true = sym (ap not f) ∙ parts.1 in
          absurd (true≢false (sym bad))
      by true e false f =
          absurd (true≢false (sym (Lists.in_any (λ (x : Dependency). x.conflict && meets_dependency x c) pool.world d among (and_from d.conflict (meets_dependency d c) on e)) ∙ f))

  other_same : (a b : ℕ) (c other : Candidate) → candidate_at pool a ≡ Some c → candidate_at pool b ≡ Some other → a ≡ b → other ≡ c
  other_same a b c other e f same = let both : Some other ≡ Some c = sym f ∙ (ap (candidate_at pool) (sym same) ∙ e) in cc

  no_conflict : (c other : Candidate) (d : Dependency) → IsIn c packages → IsIn other packages → IsIn d c.depends → d.conflict ≡ true → meets_dependency d other ≡ true → other ≡ c
  no_conflict c other d here there among on meets =
      let a = in_at pool trace c here in
      let b = in_at pool trace other there in
      by a.0 b.0 a.1 b.1 a.2 b.2 (eqb a.0 b.0) refl
    where
      meets_it : (b : ℕ) → candidate_at pool b ≡ Some other → (d.conflict && candidate_at_passes pool (meets_dependency d) b) ≡ true
      meets_it b f = and_from d.conflict (candidate_at_passes pool (meets_dependency d) b) on (test_at pool (meets_dependency d) b other f ∙ meets)

      by : (a b : ℕ) → IsIn a trace → IsIn b trace → candidate_at pool a ≡ Some c → candidate_at pool b ≡ Some other → (t : Bool) → eqb a b ≡ t → other ≡ c
      by a b one two e f true t = other_same a b c other e f (eqb-true a b t)
      by a b one two e f false t =
          let none = are.no_conflict a b one two (eqb-false a b t) in
          let some : is_conflict_of_first_met_by_second pool a b ≡ true =
          Lists.in_any (λ (x : Dependency). x.conflict && candidate_at_passes pool (meets_dependency x) b) (depends_at pool a) d (subst (IsIn d) (sym (depends_of a c e)) among) (meets_it b f) in
          absurd (true≢false (sym some ∙ none))

  names_alone : (c other : Candidate) (name : List ℕ) → IsIn c packages → IsIn other packages → occupies_name name c ≡ true → occupies_name name other ≡ true → other ≡ c
  names_alone c other name here there one two =
      let a = in_at pool trace c here in
      let b = in_at pool trace other there in
      other_same a.0 b.0 c other a.2 b.2
      (are.names_alone a.0 b.0 name a.1 b.1 (test_at pool (occupies_name name) a.0 c a.2 ∙ one) (test_at pool (occupies_name name) b.0 other b.2 ∙ two))

  all_met : (deps : List Dependency) → ((d : Dependency) → IsIn d deps → IsMetByOne packages d) → list_all (λ (d : Dependency). is_met pool trace (entry d)) deps ≡ true
  all_met [] met = refl
  all_met (d ∷ deps) met = and_from (is_met pool trace (entry d)) (list_all (λ (x : Dependency). is_met pool trace (entry x)) deps) (met_one d (met d (inl refl))) (all_met deps (λ x here. met x (inr here)))

  installs : (c : Candidate) → InstallIfApplies pool.candidates pool.world packages c → (other : Candidate) × IsIn other packages × (other.name ≡ c.name)
  installs c h =
      let applies : install_if_applies pool trace c ≡ true = and_from (is_eligible_with_positive_install_if pool.world c) (list_all (λ (d : Dependency). is_met pool trace (entry d)) c.install_if) h.usable (all_met c.install_if h.met) in
      let name_in : IsIn c.name (names_whose_install_if_applies pool trace) = in_map (λ (x : Candidate). x.name) c (filter (install_if_applies pool trace) pool.candidates) (in_filter (install_if_applies pool trace) c pool.candidates h.is_candidate applies) in
      let one = any_in (λ k. meets_at pool k (named c.name)) trace (are.asked_met c.name name_in) in
      let other = at_test pool (meets_dependency_or_has_package_name (named c.name)) one.0 one.2 in
      (other.0, at_in pool trace one.0 other.0 one.1 other.1, sym ((bytes_eq-Decides c.name other.0.name).0 other.2))

  at_is_in : (cs : List Candidate) (place : ℕ) (c : Candidate) → slice_get cs place ≡ Some c → IsIn c cs
  at_is_in [] place c e = absurd (cc (e))
  at_is_in (x ∷ cs) zero c e = let same : x ≡ c = cc in inl (sym same)
  at_is_in (x ∷ cs) (suc place) c e = inr (at_is_in cs place c e)

  pub satisfied : SatisfyWorld pool.candidates pool.world packages
  satisfied = record {
    are_candidates = λ c here. (let place = in_at pool trace c here in at_is_in pool.candidates place.0 c place.2);
    allowed = λ c here. (and_parts (is_allowed_by_tags_of_world pool.world c) (not (is_barred_by_world pool.world c)) (eligible c here)).0;
    not_barred = not_barred;
    world_met = λ d here off. one_met d (are.world_met (entry d) (as_need d pool.world here off));
    depends_met = λ c d here among off. (let place = in_at pool trace c here in
        one_met d (are.depends_met place.0 (entry d) place.1 (as_need d (depends_at pool place.0) (subst (IsIn d) (sym (depends_of place.0 c place.2)) among) off)));
    no_conflict = no_conflict;
    names_alone = names_alone;
    installs = installs;
  }

  -- ---- each is needed

  -- choices are among those of the whole trace
  abbrev AreOfTrace : List ℕ → Type 0
  AreOfTrace chosen = (c : ℕ) → IsIn c chosen → IsIn c trace

  met_of : (chosen : List ℕ) (d : Dependency) → AreOfTrace chosen → IsMetByChoice pool chosen (entry d) → IsMetByOne packages d
  met_of chosen d of_trace met =
      let c = at_test pool (meets_dependency_or_has_package_name (entry d)) met.0 met.2 in
      (c.0, at_in pool trace met.0 c.0 (of_trace met.0 met.1) c.1, c.2)

  unmet_in : (chosen : List ℕ) (deps : List Dependency) (d : Dependency) → IsFirstUnmet pool chosen deps d → IsIn d deps
  unmet_in chosen deps d f = subst (IsIn d) (sym f.located) (in_right d f.front (d ∷ f.behind) (inl refl))

  -- a choice for the next need behind some choices
  needed_next : (chosen : List ℕ) (need : Need) (c : Candidate) → AreOfTrace chosen → IsNextNeedOrNone pool chosen (Some need) → meets_dependency_or_has_package_name need c ≡ true → IsNeededByWorldOrPackages pool.candidates pool.world packages c
  needed_next chosen (entry d) c of_trace (inl f) meets = inl (d, unmet_in chosen pool.world d f, f.positive, meets)
  needed_next chosen (entry d) c of_trace (inr f) meets =
      let choice_in : IsIn f.1.choice chosen = subst (IsIn f.1.choice) (sym f.1.located) (in_right f.1.choice f.1.front (f.1.choice ∷ f.1.behind) (inl refl)) in
      inr (inl (by (candidate_at pool f.1.choice) refl choice_in (unmet_in chosen (depends_at pool f.1.choice) d f.1.first)))
    where
      by : (o : Option Candidate) → candidate_at pool f.1.choice ≡ o → IsIn f.1.choice chosen → IsIn d (depends_at pool f.1.choice) → (other : Candidate) × IsIn other packages × MeetsOneDependency other.depends c
      by None e choice_in among = let none : depends_at pool f.1.choice ≡ [] = ap (λ o. option_map_or (λ (k : Candidate). k.depends) o []) e in absurd (subst (IsIn d) none among)
      by (Some other) e choice_in among =
          (other, at_in pool trace f.1.choice other (of_trace f.1.choice choice_in) e, (d, subst (IsIn d) (depends_of f.1.choice other e) among, f.1.first.positive, meets))
  needed_next chosen (named name) c of_trace f meets =
      let asked = f.2.asked in
      let is : InstallIfApplies pool.candidates pool.world packages asked.candidate = record { is_candidate = asked.located; usable = asked.usable; met = λ d here. met_of chosen d of_trace (asked.applies d here) } in
      inr (inr (asked.candidate, is, sym ((bytes_eq-Decides name c.name).0 meets) ∙ sym asked.is_named))

  -- what the next need is
  abbrev IsNextKnown : Type 0
  IsNextKnown = (chosen : List ℕ) → IsNextNeedOrNone pool chosen (next_need pool chosen)

  module _ (next : IsNextKnown) where
    more_of : (chosen : List ℕ) (c : ℕ) → AreOfTrace chosen → IsIn c trace → AreOfTrace (chosen ++ c ∷ [])
    more_of chosen c of_trace here d at = elim (in_append d chosen (c ∷ []) at) [
      | inl front ↦ of_trace d front
      | inr behind ↦ elim behind [ inl is ↦ subst (λ (x : ℕ). IsIn x trace) (sym is) here | inr none ↦ absurd none ]
    ]

    needed_from : (chosen rest : List ℕ) → AreOfTrace chosen → IsRestOfSelectionWalkAfterChosen pool trace chosen rest → (place : ℕ) (c : Candidate) → IsIn place rest → candidate_at pool place ≡ Some c → IsNeededByWorldOrPackages pool.candidates pool.world packages c
    needed_from chosen [] of_trace walk place c here e = absurd here
    needed_from chosen (p ∷ rest) of_trace walk place c (inl is) e =
        let best : IsBestMember pool trace walk.0 p = walk.2 in
        let at : candidate_at pool p ≡ Some c = ap (candidate_at pool) (sym is) ∙ e in
        needed_next chosen walk.0 c of_trace (subst (IsNextNeedOrNone pool chosen) walk.1 (next chosen)) (sym (test_at pool (meets_dependency_or_has_package_name walk.0) p c at) ∙ best.1)
    needed_from chosen (p ∷ rest) of_trace walk place c (inr behind) e =
        let best : IsBestMember pool trace walk.0 p = walk.2 in
        needed_from (chosen ++ p ∷ []) rest (more_of chosen p of_trace best.0) walk.3 place c behind e

    pub needed : IsRestOfSelectionWalkAfterChosen pool trace [] trace → (c : Candidate) → IsIn c packages → IsNeededByWorldOrPackages pool.candidates pool.world packages c
    needed walk c here = let place = in_at pool trace c here in needed_from [] trace (λ x none. absurd none) walk place.0 c place.1 place.2
