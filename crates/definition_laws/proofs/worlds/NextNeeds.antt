-- The next need, apart from how it is found.
use Rattle.std.proofs.Common.{◌≡◌, ◌⊎◌, ℕ, Bool, true, false, true≢false, not, cond, List, [], ◌∷◌, ◌++◌, map, Option, Some, None, Ordering, inl, inr, refl, ap, sym, ◌∙◌, subst}
use Rattle.std.specs.Option.{option_map, option_or}
use Rattle.std.specs.Ordering.{is_lt, ordering_reverse}
use Rattle.std.specs.declared.cmp.Ordering.TheVariants.{Less, Equal, Greater}
use Rattle.std.specs.List.{filter, find, flat_map, list_all}
use Rattle.std.proofs.lemmas.Bool.{and_from, and_parts, not-true}
use Rattle.dep_core.specs.Dependency.{Dependency}
use Rattle.base_core.specs.ByteOrder.{bytes_cmp, precedes}
use Rattle.base_core.proofs.Orderings.{names_total}
use Rattle.engine_core.specs.candidate_core.Candidates.{Candidate, Need, entry, named, is_eligible_with_positive_install_if}
use Rattle.engine_core.specs.candidate_core.Options.{IsIn}
use Rattle.engine_core.specs.candidate_core.Rank.{SelectionProblem, meets_at}
use Rattle.engine_core.specs.search_tables.Selection.{depends_at, install_if_applies, is_met, is_unmet, least_name, lesser_name, names_whose_install_if_applies, next_need, positive_needs, needs_of_world_and_chosen}
use Rattle.engine_core.proofs.search_tables.PoolFacts.{any_in, filter_in, in_filter, in_map, least_in, least_none, map_in, in_any}
use Rattle.definition_laws.specs.worlds.NextNeed.{AreMetByChoices, AreDependenciesOfEachMet, IsAskedByInstallIf, IsFirstOfChoices, IsFirstUnmet, IsMetByChoice, IsNextNeedOrNone}

-- ---- the least name

below_not : (a b : List ℕ) (o : Ordering) → bytes_cmp a b ≡ o → is_lt o ≡ true → is_lt (bytes_cmp b a) ≡ false
below_not a b Less e h = ap is_lt (names_total.antisymm b a ∙ ap ordering_reverse e)
below_not a b Equal e h = absurd (cc (h))
below_not a b Greater e h = absurd (cc (h))

self_not : (o : Ordering) → o ≡ ordering_reverse o → is_lt o ≡ false
self_not Less e = absurd (cc (e))
self_not Equal e = refl
self_not Greater e = absurd (cc (e))

not_before_self : (a : List ℕ) → is_lt (bytes_cmp a a) ≡ false
not_before_self a = self_not (bytes_cmp a a) (names_total.antisymm a a)

-- where m is not before n, and y not before m, y is not before n
not_before : (y m n : List ℕ) → is_lt (bytes_cmp m n) ≡ false → is_lt (bytes_cmp y m) ≡ false → is_lt (bytes_cmp y n) ≡ false
not_before y m n h k = by (bytes_cmp y n) refl (bytes_cmp m y) refl
  where
    by : (o : Ordering) → bytes_cmp y n ≡ o → (p : Ordering) → bytes_cmp m y ≡ p → is_lt o ≡ false
    by Equal e p f = refl
    by Greater e p f = refl
    by Less e Less f = absurd (true≢false (sym (ap is_lt (names_total.trans m y n f e)) ∙ h))
    by Less e Equal f = absurd (true≢false (sym (ap is_lt (names_total.congr m y n f ∙ e)) ∙ h))
    by Less e Greater f = absurd (true≢false (sym (ap is_lt (names_total.antisymm y m ∙ ap ordering_reverse f)) ∙ k))

least_first : (xs : List (List ℕ)) (x : List ℕ) → least_name xs ≡ Some x → (y : List ℕ) → IsIn y xs → precedes y x ≡ false
least_first [] x e y here = absurd here
least_first (n ∷ xs) x e y here = by (least_name xs) refl e here (λ m f. least_first xs m f y)
  where
    by : (r : Option (List ℕ)) → least_name xs ≡ r → Some (lesser_name n r) ≡ Some x → IsIn y (n ∷ xs)
        → ((m : List ℕ) → least_name xs ≡ Some m → IsIn y xs → precedes y m ≡ false) → precedes y x ≡ false
    by None f e (inl is) more =
        let same : n ≡ x = cc in
        subst (λ (z : List ℕ). precedes y z ≡ false) same (subst (λ (z : List ℕ). precedes z n ≡ false) (sym is) (not_before_self n))
    by None f e (inr behind) more = absurd (subst (λ (l : List (List ℕ)). IsIn y l) (least_none xs f) behind)
    by (Some m) f e here more = by_test (is_lt (bytes_cmp m n)) refl e here
      where
        by_test : (b : Bool) → is_lt (bytes_cmp m n) ≡ b → Some (cond b m n) ≡ Some x → IsIn y (n ∷ xs) → precedes y x ≡ false
        by_test true t e (inl is) =
            let same : m ≡ x = cc in
            subst (λ (z : List ℕ). precedes y z ≡ false) same (subst (λ (z : List ℕ). precedes z m ≡ false) (sym is) (below_not m n (bytes_cmp m n) refl t))
        by_test true t e (inr behind) =
            let same : m ≡ x = cc in
            subst (λ (z : List ℕ). precedes y z ≡ false) same (more m f behind)
        by_test false t e (inl is) =
            let same : n ≡ x = cc in
            subst (λ (z : List ℕ). precedes y z ≡ false) same (subst (λ (z : List ℕ). precedes z n ≡ false) (sym is) (not_before_self n))
        by_test false t e (inr behind) =
            let same : n ≡ x = cc in
            subst (λ (z : List ℕ). precedes y z ≡ false) same (not_before y m n t (more m f behind))

-- ---- needs that are met

all_pass : (test : Dependency → Bool) (xs : List Dependency) → ((x : Dependency) → IsIn x xs → test x ≡ true) → list_all test xs ≡ true
all_pass test [] h = refl
all_pass test (y ∷ ys) h = and_from (test y) (list_all test ys) (h y (inl refl)) (all_pass test ys (λ x here. h x (inr here)))

pub all_in : (test : Dependency → Bool) (xs : List Dependency) (x : Dependency) → list_all test xs ≡ true → IsIn x xs → test x ≡ true
all_in test [] x h here = absurd here
all_in test (y ∷ ys) x h (inl is) = ap test is ∙ (and_parts (test y) (list_all test ys) h).0
all_in test (y ∷ ys) x h (inr more) = all_in test ys x (and_parts (test y) (list_all test ys) h).1 more

module _ (pool : SelectionProblem) (chosen : List ℕ) where
  met : (need : Need) → is_met pool chosen need ≡ true → IsMetByChoice pool chosen need
  met need e = any_in (λ c. meets_at pool c need) chosen e

  is_met_by : (need : Need) → IsMetByChoice pool chosen need → is_met pool chosen need ≡ true
  is_met_by need m = in_any (λ c. meets_at pool c need) chosen m.0 m.1 m.2

  unmet : (need : Need) → is_met pool chosen need ≡ false → ¬ IsMetByChoice pool chosen need
  unmet need e m = true≢false (sym (is_met_by need m) ∙ e)

  is_unmet_by : (need : Need) → ¬ IsMetByChoice pool chosen need → (b : Bool) → is_met pool chosen need ≡ b → not b ≡ true
  is_unmet_by need none true e = absurd (none (met need e))
  is_unmet_by need none false e = refl

  -- ---- dependencies

  abbrev test : Need → Bool
  test = is_unmet pool chosen

  abbrev HeadMet : Dependency → Type 0
  HeadMet e = (d : Dependency) → d ≡ e → d.conflict ≡ false → IsMetByChoice pool chosen (entry d)

  more_met : (e : Dependency) (deps : List Dependency) → HeadMet e → AreMetByChoices pool chosen deps → AreMetByChoices pool chosen (e ∷ deps)
  more_met e deps head rest d (inl is) = head d is
  more_met e deps head rest d (inr here) = rest d here

  further : (e : Dependency) (deps : List Dependency) (d : Dependency) → HeadMet e → IsFirstUnmet pool chosen deps d → IsFirstUnmet pool chosen (e ∷ deps) d
  further e deps d head f = record {
    front = e ∷ f.front;
    behind = f.behind;
    located = ap (λ (l : List Dependency). e ∷ l) f.located;
    before = more_met e f.front head f.before;
    positive = f.positive;
    unmet = f.unmet;
  }

  -- the first need of some dependencies, or those behind them
  abbrev Splits : List Dependency → Option Need → Option Need → Type 0
  Splits deps found behind = ((d : Dependency) × IsFirstUnmet pool chosen deps d × (found ≡ Some (entry d))) ⊎ (AreMetByChoices pool chosen deps × (found ≡ behind))

  one_more : (e : Dependency) (deps : List Dependency) (found behind : Option Need) → HeadMet e → Splits deps found behind → Splits (e ∷ deps) found behind
  one_more e deps found behind head (inl (d, first, is)) = inl (d, further e deps d head first, is)
  one_more e deps found behind head (inr (all, is)) = inr (more_met e deps head all, is)

  abbrev no_conflicts : List Dependency → List Dependency
  no_conflicts deps = filter (λ (d : Dependency). not d.conflict) deps

  split : (deps : List Dependency) (rest : List Need) → Splits deps (find test (positive_needs deps ++ rest)) (find test rest)
  split [] rest = inr (λ d none. absurd none, refl)
  split (e ∷ deps) rest = by_conflict e.conflict refl (split deps rest)
    where
      by_met : e.conflict ≡ false → (b : Bool) → is_met pool chosen (entry e) ≡ b → Splits deps (find test (map entry (no_conflicts deps) ++ rest)) (find test rest)
          → Splits (e ∷ deps) (cond (not b) (Some (entry e)) (find test (map entry (no_conflicts deps) ++ rest))) (find test rest)
      by_met positive true m more =
          one_more e deps (find test (map entry (no_conflicts deps) ++ rest)) (find test rest) (λ d is c. subst (λ (x : Dependency). IsMetByChoice pool chosen (entry x)) (sym is) (met (entry e) m)) more
      by_met positive false m more = inl (
        e,
        record {
          front = [];
          behind = deps;
          located = refl;
          before = λ d none. absurd none;
          positive = positive;
          unmet = unmet (entry e) m;
        },
        refl,
      )

      by_conflict : (b : Bool) → e.conflict ≡ b → Splits deps (find test (map entry (no_conflicts deps) ++ rest)) (find test rest)
          → Splits (e ∷ deps) (find test (map entry (cond (not b) (e ∷ no_conflicts deps) (no_conflicts deps)) ++ rest)) (find test rest)
      by_conflict true t more =
          one_more e deps (find test (map entry (no_conflicts deps) ++ rest)) (find test rest) (λ d is c. absurd (true≢false (sym (ap (λ (x : Dependency). x.conflict) is ∙ t) ∙ c))) more
      by_conflict false t more = by_met t (is_met pool chosen (entry e)) refl more

  -- ---- of the choices

  abbrev raised : List ℕ → List Need
  raised cs = flat_map (λ c. positive_needs (depends_at pool c)) cs

  abbrev SplitsChoices : List ℕ → Option Need → Type 0
  SplitsChoices cs found = ((d : Dependency) × IsFirstOfChoices pool chosen cs d × (found ≡ Some (entry d))) ⊎ (AreDependenciesOfEachMet pool chosen cs × (found ≡ None))

  each_more : (c : ℕ) (cs : List ℕ) → AreMetByChoices pool chosen (depends_at pool c) → AreDependenciesOfEachMet pool chosen cs → AreDependenciesOfEachMet pool chosen (c ∷ cs)
  each_more c cs head rest k (inl is) = subst (λ (n : ℕ). AreMetByChoices pool chosen (depends_at pool n)) (sym is) head
  each_more c cs head rest k (inr here) = rest k here

  choices : (cs : List ℕ) → SplitsChoices cs (find test (raised cs))
  choices [] = inr (λ c none. absurd none, refl)
  choices (c ∷ cs) = by (split (depends_at pool c) (raised cs)) (choices cs)
    where
      by : Splits (depends_at pool c) (find test (raised (c ∷ cs))) (find test (raised cs)) → SplitsChoices cs (find test (raised cs)) → SplitsChoices (c ∷ cs) (find test (raised (c ∷ cs)))
      by (inl (d, first, is)) more = inl (
        d,
        record {
          front = [];
          choice = c;
          behind = cs;
          located = refl;
          before = λ k none. absurd none;
          first = first;
        },
        is,
      )
      by (inr (all, is)) (inl (d, f, found)) = inl (
        d,
        record {
          front = c ∷ f.front;
          choice = f.choice;
          behind = f.behind;
          located = ap (λ (l : List ℕ). c ∷ l) f.located;
          before = each_more c f.front all f.before;
          first = f.first;
        },
        is ∙ found,
      )
      by (inr (all, is)) (inr (each, none)) = inr (each_more c cs all each, is ∙ none)

  -- ---- by install-if

  abbrev unmet_names : List (List ℕ)
  unmet_names = filter (λ name. is_unmet pool chosen (named name)) (names_whose_install_if_applies pool chosen)

  asked_in : (name : List ℕ) → IsAskedByInstallIf pool chosen name → IsIn name unmet_names
  asked_in name a =
      let applies : install_if_applies pool chosen a.candidate ≡ true =
      and_from (is_eligible_with_positive_install_if pool.world a.candidate) (list_all (λ (d : Dependency). is_met pool chosen (entry d)) a.candidate.install_if) a.usable
      (all_pass (λ (d : Dependency). is_met pool chosen (entry d)) a.candidate.install_if (λ d here. is_met_by (entry d) (a.applies d here))) in
      let here = in_filter (install_if_applies pool chosen) a.candidate pool.candidates a.located applies in
      let there : IsIn a.candidate.name (names_whose_install_if_applies pool chosen) = in_map (λ (c : Candidate). c.name) a.candidate (filter (install_if_applies pool chosen) pool.candidates) here in
      in_filter (λ n. is_unmet pool chosen (named n)) name (names_whose_install_if_applies pool chosen) (subst (λ (n : List ℕ). IsIn n (names_whose_install_if_applies pool chosen)) a.is_named there)
      (is_unmet_by (named name) a.unmet (is_met pool chosen (named name)) refl)

  in_asked : (name : List ℕ) → IsIn name unmet_names → IsAskedByInstallIf pool chosen name
  in_asked name here =
      let kept = filter_in (λ n. is_unmet pool chosen (named n)) name (names_whose_install_if_applies pool chosen) here in
      let from = map_in (λ (c : Candidate). c.name) name (filter (install_if_applies pool chosen) pool.candidates) kept.0 in
      let there = filter_in (install_if_applies pool chosen) from.0 pool.candidates from.1 in
      let parts = and_parts (is_eligible_with_positive_install_if pool.world from.0) (list_all (λ (d : Dependency). is_met pool chosen (entry d)) from.0.install_if) there.1 in
      record {
        candidate = from.0;
        located = there.0;
        is_named = sym from.2;
        usable = parts.0;
        applies = λ d at. met (entry d) (all_in (λ (e : Dependency). is_met pool chosen (entry e)) from.0.install_if d parts.1 at);
        unmet = unmet (named name) (not-true (is_met pool chosen (named name)) kept.1);
      }

  by_names : AreMetByChoices pool chosen pool.world → AreDependenciesOfEachMet pool chosen chosen → (r : Option (List ℕ)) → least_name unmet_names ≡ r → IsNextNeedOrNone pool chosen (option_map named r)
  by_names world each None e = (world, each, λ name asked. subst (λ (l : List (List ℕ)). IsIn name l) (least_none unmet_names e) (asked_in name asked))
  by_names world each (Some name) e = (
    world,
    each,
    record {
      asked = in_asked name (least_in unmet_names name e);
      first = λ other asked. least_first unmet_names name e other (asked_in other asked);
    },
  )

  -- ---- all of them

  abbrev by_install_if : Option Need
  by_install_if = option_map named (least_name unmet_names)

  by_raised : (found : Option Need) → Splits pool.world found (find test (raised chosen)) → SplitsChoices chosen (find test (raised chosen)) → IsNextNeedOrNone pool chosen (option_or found by_install_if)
  by_raised found (inl (d, first, is)) more = subst (λ (r : Option Need). IsNextNeedOrNone pool chosen (option_or r by_install_if)) (sym is) (inl first)
  by_raised found (inr (world, is)) (inl (d, first, from)) = subst (λ (r : Option Need). IsNextNeedOrNone pool chosen (option_or r by_install_if)) (sym (is ∙ from)) (inr (world, first))
  by_raised found (inr (world, is)) (inr (each, from)) = subst (λ (r : Option Need). IsNextNeedOrNone pool chosen (option_or r by_install_if)) (sym (is ∙ from)) (by_names world each (least_name unmet_names) refl)

  pub next : IsNextNeedOrNone pool chosen (next_need pool chosen)
  unfolding next_need
  next = by_raised (find test (needs_of_world_and_chosen pool chosen)) (split pool.world (raised chosen)) (choices chosen)
