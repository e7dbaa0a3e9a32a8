-- Packages that satisfy world are those of a satisfying selection.
use Rattle.std.proofs.Common.{◌≡◌, ◌≢◌, inl, inr, ℕ, Bool, true, false, true≢false, not, List, [], ◌∷◌, Some, refl, ap, sym, subst, ◌∙◌}
use Rattle.std.specs.Prelude.{◌&&◌, bytes_eq}
use Rattle.std.specs.List.{filter, list_all, list_any}
use Rattle.std.proofs.lemmas.Bool.{and_from, and_parts, or_left, not-true, not_from_false}
use Rattle.std.proofs.lemmas.Slice.Eq.{bytes_eq-Decides}
use Rattle.base_core.proofs.AtName.{own_name}
use Rattle.dep_core.specs.Dependency.{Dependency}
use Rattle.engine_core.specs.candidate_core.Candidates.{Candidate, Need, entry, is_name_occupied_by_provides_entry, named, is_eligible_with_positive_install_if, is_allowed_by_tags_of_world, is_barred_by_world, is_eligible, meets_dependency, meets_dependency_or_has_package_name, occupies_name}
use Rattle.engine_core.specs.candidate_core.Options.{IsIn}
use Rattle.engine_core.specs.candidate_core.Rank.{SelectionProblem, candidate_at, candidate_at_passes, is_eligible_at, meets_at}
use Rattle.engine_core.proofs.candidate_core.Places.{place_of}
use Rattle.engine_core.specs.package_changes.Placed.{candidates_at}
use Rattle.engine_core.specs.search_tables.Selection.{AreDistinct, IsSatisfying, is_conflict_of_first_met_by_second, depends_at, install_if_applies, is_met, names_whose_install_if_applies, positive_needs}
use Rattle.engine_core.proofs.search_tables.PoolFacts.{any_in, filter_in, map_in}
use Rattle.definition_laws.specs.worlds.SatisfiedWorld.{AreEqualSetsOfCandidates, InstallIfApplies, IsMetByOne, SatisfyWorld}
use Rattle.definition_laws.proofs.worlds.InstalledCounted.{in_any, no_any}
use Rattle.definition_laws.proofs.worlds.InstalledCounted as Lists
use Rattle.definition_laws.proofs.worlds.NextNeeds.{all_in}
use Rattle.definition_laws.proofs.worlds.SatisfiedWorlds.{IsLedTo, at_in, in_at, test_at}

occupies : (name : List ℕ) (c : Candidate) → bytes_eq name c.name ≡ true → occupies_name name c ≡ true
occupies name c e = or_left (bytes_eq name c.name) (list_any (is_name_occupied_by_provides_entry name) c.provides) e

module _ (pool : SelectionProblem) (packages : List Candidate) (are : SatisfyWorld pool.candidates pool.world packages) where
  -- ---- a place for each package

  -- these are places of some packages: each once, each leads to a package, each package is led to, and
  -- one leads to each
  record ArePlacesOf (places : List ℕ) (some : List Candidate) : Type 0 where
    pub once : AreDistinct places
    pub each : (place : ℕ) → IsIn place places → (c : Candidate) × IsIn c some × (candidate_at pool place ≡ Some c)
    pub all : (c : Candidate) → IsIn c some → IsLedTo pool c places
    pub one : (a b : ℕ) (c : Candidate) → IsIn a places → IsIn b places → candidate_at pool a ≡ Some c → candidate_at pool b ≡ Some c → a ≡ b

  -- some packages, and places of them
  abbrev HasPlaces : List Candidate → Type 0
  HasPlaces some = (places : List ℕ) × ArePlacesOf places some

  abbrev AreAmong : List Candidate → Type 0
  AreAmong some = (c : Candidate) → IsIn c some → IsIn c packages

  abbrev is_of_name : Candidate → Candidate → Bool
  is_of_name c x = bytes_eq c.name x.name

  -- a package that is one of some has their places
  with_known : (c : Candidate) (some : List Candidate) → IsIn c some → HasPlaces some → HasPlaces (c ∷ some)
  with_known c some here p = (
    p.0,
    record {
      once = p.1.once;
      each = λ place at. (let q = p.1.each place at in (q.0, inr q.1, q.2));
      all = λ x at. elim at [ inl is ↦ p.1.all x (subst (λ (y : Candidate). IsIn y some) (sym is) here) | inr more ↦ p.1.all x more ];
      one = p.1.one;
    },
  )

  -- a package that is none of them has a further one
  with_new : (c : Candidate) (some : List Candidate) (place : ℕ) → (IsIn c some → ⊥) → candidate_at pool place ≡ Some c → HasPlaces some → HasPlaces (c ∷ some)
  with_new c some place absent at_place p =
      (place ∷ p.0, record { once = ((λ at. fresh place at at_place), p.1.once); each = each; all = all; one = one })
    where
      fresh : (b : ℕ) → IsIn b p.0 → candidate_at pool b ≡ Some c → ⊥
      fresh b at e =
          let q = p.1.each b at in
          let both : Some q.0 ≡ Some c = sym q.2 ∙ e in
          let same : q.0 ≡ c = cc in
          absent (subst (λ (y : Candidate). IsIn y some) same q.1)

      each : (b : ℕ) → IsIn b (place ∷ p.0) → (x : Candidate) × IsIn x (c ∷ some) × (candidate_at pool b ≡ Some x)
      each b (inl is) = (c, inl refl, ap (candidate_at pool) is ∙ at_place)
      each b (inr more) = let q = p.1.each b more in (q.0, inr q.1, q.2)

      all : (x : Candidate) → IsIn x (c ∷ some) → IsLedTo pool x (place ∷ p.0)
      all x (inl is) = (place, inl refl, at_place ∙ ap Some (sym is))
      all x (inr more) = let led = p.1.all x more in (led.0, inr led.1, led.2)

      led_to : (a : ℕ) (x : Candidate) → a ≡ place → candidate_at pool a ≡ Some x → Some x ≡ Some c
      led_to a x is e = sym e ∙ (ap (candidate_at pool) is ∙ at_place)

      one : (a b : ℕ) (x : Candidate) → IsIn a (place ∷ p.0) → IsIn b (place ∷ p.0) → candidate_at pool a ≡ Some x → candidate_at pool b ≡ Some x → a ≡ b
      one a b x (inl is) (inl same) e f = is ∙ sym same
      one a b x (inl is) (inr more) e f = absurd (fresh b more (f ∙ led_to a x is e))
      one a b x (inr more) (inl is) e f = absurd (fresh a more (e ∙ led_to b x is f))
      one a b x (inr more) (inr behind) e f = p.1.one a b x more behind e f

  places_of : (some : List Candidate) → AreAmong some → HasPlaces some
  places_of [] among = ([], record { once = tt; each = λ place at. absurd at; all = λ c at. absurd at; one = λ a b c at. absurd at })
  places_of (c ∷ some) among = by (list_any (is_of_name c) some) refl (places_of some (λ x at. among x (inr at)))
    where
      by : (t : Bool) → list_any (is_of_name c) some ≡ t → HasPlaces some → HasPlaces (c ∷ some)
      by true e rest =
          let found = Lists.any_in (is_of_name c) some e in
          let same : found.0 ≡ c = are.names_alone c found.0 c.name (among c (inl refl)) (among found.0 (inr found.1)) (occupies c.name c (own_name c.name)) (occupies c.name found.0 found.2) in
          with_known c some (subst (λ (y : Candidate). IsIn y some) same found.1) rest
      by false e rest =
          let place = place_of pool.candidates c (are.are_candidates c (among c (inl refl))) in
          with_new c some place.0 (λ at. true≢false (sym (in_any (is_of_name c) some c at (own_name c.name)) ∙ e)) place.1 rest

  -- ---- these places satisfy world

  module _ (places : List ℕ) (p : ArePlacesOf places packages) where
    met : (d : Dependency) → IsMetByOne packages d → is_met pool places (entry d) ≡ true
    met d one =
        let led = p.all one.0 one.1 in
        in_any (λ c. meets_at pool c (entry d)) places led.0 led.1 (test_at pool (meets_dependency_or_has_package_name (entry d)) led.0 one.0 led.2 ∙ one.2)

    one_met : (d : Dependency) → is_met pool places (entry d) ≡ true → IsMetByOne packages d
    one_met d e =
        let one = any_in (λ c. meets_at pool c (entry d)) places e in
        let q = p.each one.0 one.1 in
        (q.0, q.1, sym (test_at pool (meets_dependency_or_has_package_name (entry d)) one.0 q.0 q.2) ∙ one.2)

    need_met : (deps : List Dependency) (need : Need) → ((d : Dependency) → IsIn d deps → d.conflict ≡ false → IsMetByOne packages d) → IsIn need (positive_needs deps) → is_met pool places need ≡ true
    need_met deps need met_of at =
        let mapped = map_in entry need (filter (λ (x : Dependency). not x.conflict) deps) at in
        let kept = filter_in (λ (x : Dependency). not x.conflict) mapped.0 deps mapped.1 in
        subst (λ (n : Need). is_met pool places n ≡ true) (sym mapped.2) (met mapped.0 (met_of mapped.0 kept.0 (not-true mapped.0.conflict kept.1)))

    depends_of : (place : ℕ) (c : Candidate) → candidate_at pool place ≡ Some c → depends_at pool place ≡ c.depends
    depends_of place c e = rw e refl

    depends_met : (place : ℕ) (need : Need) → IsIn place places → IsIn need (positive_needs (depends_at pool place)) → is_met pool places need ≡ true
    depends_met place need here at =
        let q = p.each place here in
        need_met q.0.depends need (λ d among off. are.depends_met q.0 d q.1 among off) (subst (λ (deps : List Dependency). IsIn need (positive_needs deps)) (depends_of place q.0 q.2) at)

    barred_by_none : (c : Candidate) → IsIn c packages → is_barred_by_world pool.world c ≡ false
    barred_by_none c here = no_any (λ (d : Dependency). d.conflict && meets_dependency d c) pool.world (λ d at. by d at (d.conflict) refl)
      where
        by : (d : Dependency) → IsIn d pool.world → (t : Bool) → d.conflict ≡ t → (d.conflict && meets_dependency d c) ≡ false
        by d at true e = rw e (are.not_barred c d here at e)
        by d at false e = rw e refl

    eligible : (place : ℕ) → IsIn place places → is_eligible_at pool place ≡ true
    eligible place here =
        let q = p.each place here in
        test_at pool (is_eligible pool.world) place q.0 q.2 ∙ and_from (is_allowed_by_tags_of_world pool.world q.0) (not (is_barred_by_world pool.world q.0)) (are.allowed q.0 q.1) (not_from_false (is_barred_by_world pool.world q.0) (barred_by_none q.0 q.1))

    same_place : (a b : ℕ) (c other : Candidate) → IsIn a places → IsIn b places → candidate_at pool a ≡ Some c → candidate_at pool b ≡ Some other → other ≡ c → a ≡ b
    same_place a b c other here there e f same = p.one a b c here there e (f ∙ ap Some same)

    no_conflict : (a b : ℕ) → IsIn a places → IsIn b places → a ≢ b → is_conflict_of_first_met_by_second pool a b ≡ false
    no_conflict a b here there differ = by (is_conflict_of_first_met_by_second pool a b) refl
      where
        by : (t : Bool) → is_conflict_of_first_met_by_second pool a b ≡ t → t ≡ false
        by false e = refl
        by true e =
            let q = p.each a here in
            let r = p.each b there in
            let found = Lists.any_in (λ (d : Dependency). d.conflict && candidate_at_passes pool (meets_dependency d) b) (depends_at pool a) e in
            let parts = and_parts found.0.conflict (candidate_at_passes pool (meets_dependency found.0) b) found.2 in
            let same = are.no_conflict q.0 r.0 found.0 q.1 r.1 (subst (IsIn found.0) (depends_of a q.0 q.2) found.1) parts.0 (sym (test_at pool (meets_dependency found.0) b r.0 r.2) ∙ parts.1) in
            absurd (differ (same_place a b q.0 r.0 here there q.2 r.2 same))

    names_alone : (a b : ℕ) (name : List ℕ) → IsIn a places → IsIn b places → candidate_at_passes pool (occupies_name name) a ≡ true → candidate_at_passes pool (occupies_name name) b ≡ true → a ≡ b
    names_alone a b name here there one two =
        let q = p.each a here in
        let r = p.each b there in
        same_place a b q.0 r.0 here there q.2 r.2
        (are.names_alone q.0 r.0 name q.1 r.1 (sym (test_at pool (occupies_name name) a q.0 q.2) ∙ one) (sym (test_at pool (occupies_name name) b r.0 r.2) ∙ two))

    -- an install-if that applies to the places applies to the packages
    applies : (c : Candidate) → IsIn c pool.candidates → install_if_applies pool places c ≡ true → InstallIfApplies pool.candidates pool.world packages c
    applies c here e =
        let parts = and_parts (is_eligible_with_positive_install_if pool.world c) (list_all (λ (d : Dependency). is_met pool places (entry d)) c.install_if) e in
        record {
          is_candidate = here;
          usable = parts.0;
          met = λ d at. one_met d (all_in (λ (x : Dependency). is_met pool places (entry x)) c.install_if d parts.1 at);
        }

    -- a package meets its own name
    name_met : (name : List ℕ) (c : Candidate) → IsIn c packages → name ≡ c.name → is_met pool places (named name) ≡ true
    name_met name c here is =
        let led = p.all c here in
        in_any (λ k. meets_at pool k (named name)) places led.0 led.1 (test_at pool (meets_dependency_or_has_package_name (named name)) led.0 c led.2 ∙ (bytes_eq-Decides name c.name).1 is)

    asked_met : (name : List ℕ) → IsIn name (names_whose_install_if_applies pool places) → is_met pool places (named name) ≡ true
    asked_met name at =
        let mapped = map_in (λ (c : Candidate). c.name) name (filter (install_if_applies pool places) pool.candidates) at in
        let kept = filter_in (install_if_applies pool places) mapped.0 pool.candidates mapped.1 in
        let other = are.installs mapped.0 (applies mapped.0 kept.0 kept.1) in
        subst (λ (n : List ℕ). is_met pool places (named n) ≡ true) (sym mapped.2) (name_met mapped.0.name other.0 other.1 (sym other.2))

    satisfying : IsSatisfying pool places
    satisfying = record {
      once = p.once;
      eligible = eligible;
      world_met = λ need at. need_met pool.world need are.world_met at;
      depends_met = depends_met;
      no_conflict = no_conflict;
      names_alone = names_alone;
      asked_met = asked_met;
    }

    same_packages : AreEqualSetsOfCandidates (candidates_at pool places) packages
    same_packages c = (back, λ here. (let led = p.all c here in at_in pool places led.0 c led.1 led.2))
      where
        back : IsIn c (candidates_at pool places) → IsIn c packages
        back here =
            let led = in_at pool places c here in
            let q = p.each led.0 led.1 in
            let both : Some q.0 ≡ Some c = sym q.2 ∙ led.2 in
            let same : q.0 ≡ c = cc in
            subst (λ (x : Candidate). IsIn x packages) same q.1

  pub selection_of : (selection : List ℕ) × IsSatisfying pool selection × AreEqualSetsOfCandidates (candidates_at pool selection) packages
  selection_of =
      let made = places_of packages (λ c here. here) in
      (made.0, satisfying made.0 made.1, same_packages made.0 made.1)
