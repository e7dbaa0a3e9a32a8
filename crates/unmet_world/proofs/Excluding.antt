-- What two candidates exclude each other by is a reason that they do.
use Rattle.std.proofs.Common.{◌≡◌, inl, inr, ℕ, Bool, Bor, true, false, List, [], ◌∷◌, map, refl, sym, ap, ◌∙◌}
use Rattle.std.specs.Prelude.{Option, Some, None, is_some, not, ◌&&◌, ◌||◌, ◌==◌}
use Rattle.std.specs.Option.{option_and_then, option_copied, option_map, option_map_or}
use Rattle.std.specs.List.{filter, find, list_any}
use Rattle.std.proofs.lemmas.Bool.{cases_Bool}
use Rattle.dep_core.specs.Dependency.{Dependency}
use Rattle.search_tables.specs.candidate_core.Candidates.{Candidate, meets_dependency, occupies_name}
use Rattle.search_tables.specs.candidate_core.Rank.{SelectionProblem, candidate_at}
use Rattle.search_tables.specs.Selection.{is_conflict_of_first_met_by_second, does_exclude, exclude_each_other, occupied_names, share_a_name}
use Rattle.unmet_world.specs.Exclusion.{both_occupy, conflict_between, conflict_with, is_conflict_met_by, shared_name_at_places, occupied_among, shared_name}

found_any : {X : Type 0} (p : X → Bool) (xs : List X) (x : X) → find p xs ≡ Some x → list_any p xs ≡ true
found_any p [] x e = absurd (cc)
found_any p (y ∷ xs) x e = elim (cases_Bool (p y)) [
  | inl t ↦ rw t refl
  | inr t ↦ rw t (found_any p xs x (rw t at e))
]

some_is : {X : Type 0} (o : Option X) → is_some o ≡ true → (x : X) × (o ≡ Some x)
some_is None h = absurd (cc)
some_is (Some x) h = (x, refl)

some_mapped : {X Y : Type 0} (f : X → Y) (o : Option X) → is_some o ≡ true → is_some (option_map f o) ≡ true
some_mapped f None h = absurd (cc)
some_mapped f (Some x) h = refl

-- ---- conflicts

conflict_held : (oa ob : Option Candidate) (d : Dependency) → option_and_then (λ one. option_and_then (conflict_with one) ob) oa ≡ Some d → list_any (λ (e : Dependency). e.conflict && option_map_or (meets_dependency e) ob false) (option_map_or (λ (k : Candidate). k.depends) oa []) ≡ true
conflict_held None ob d e = absurd (cc)
conflict_held (Some one) None d e = absurd (cc)
conflict_held (Some one) (Some other) d e = found_any (is_conflict_met_by other) one.depends d e

-- ---- names

name_provided : (other : Candidate) (ps : List Dependency) (name : List ℕ) → occupied_among ps other ≡ Some name → list_any (λ n. occupies_name n other) (map (λ (p : Dependency). p.name) (filter (λ (p : Dependency). not p.conflict && is_some p.version) ps)) ≡ true
name_provided other [] name e = absurd (cc)
name_provided other (p ∷ ps) name e = by p.conflict (is_some p.version) (occupies_name p.name other) refl refl refl (name_provided other ps name)
  where
    by : (c v o : Bool) → p.conflict ≡ c → is_some p.version ≡ v → occupies_name p.name other ≡ o
        → (occupied_among ps other ≡ Some name → list_any (λ n. occupies_name n other) (map (λ (q : Dependency). q.name) (filter (λ (q : Dependency). not q.conflict && is_some q.version) ps)) ≡ true)
        → list_any (λ n. occupies_name n other) (map (λ (q : Dependency). q.name) (filter (λ (q : Dependency). not q.conflict && is_some q.version) (p ∷ ps))) ≡ true
    by true v o is_c is_v is_o rest = rw is_c (rest (rw is_c at e))
    by false false o is_c is_v is_o rest = rw (is_c, is_v) (rest (rw (is_c, is_v) at e))
    by false true true is_c is_v is_o rest = rw (is_c, is_v, is_o) refl
    by false true false is_c is_v is_o rest = rw (is_c, is_v, is_o) (rest (rw (is_c, is_v, is_o) at e))

name_held : (oa ob : Option Candidate) (name : List ℕ) → option_and_then (λ one. option_and_then (shared_name one) ob) oa ≡ Some name → list_any (λ n. option_map_or (occupies_name n) ob false) (option_map_or occupied_names oa []) ≡ true
name_held None ob name e = absurd (cc)
name_held (Some one) None name e = absurd (cc)
name_held (Some one) (Some other) name e = elim (cases_Bool (occupies_name one.name other)) [
  | inl t ↦ rw t refl
  | inr t ↦ rw t (name_provided other one.provides name (rw t at e))
]

-- ---- both

module _ (pool : SelectionProblem) (a b : ℕ) (apart : (a == b) ≡ false) where
  kept_out : does_exclude pool a b ≡ true → exclude_each_other pool a b ≡ true
  kept_out h = rw (apart, h) refl

  kept_out_back : does_exclude pool b a ≡ true → exclude_each_other pool a b ≡ true
  kept_out_back h = rw (apart, h) (or_true (does_exclude pool a b))
    where
      or_true : (x : Bool) → (x || true) ≡ true
      or_true true = refl
      or_true false = refl

  conflicts : (c d : ℕ) → is_some (conflict_between pool c d) ≡ true → does_exclude pool c d ≡ true
  conflicts c d h =
      let found = some_is (conflict_between pool c d) h in
      let held : is_conflict_of_first_met_by_second pool c d ≡ true = conflict_held (candidate_at pool c) (candidate_at pool d) found.0 found.1 in
      rw held refl

  pub by_conflict : {X : Type 0} (f : X → Dependency) (o : Option X) → option_map f o ≡ conflict_between pool a b → is_some o ≡ true → exclude_each_other pool a b ≡ true
  by_conflict f o is h = kept_out (conflicts a b (ap is_some (sym is) ∙ some_mapped f o h))

  pub by_conflict_back : {X : Type 0} (f : X → Dependency) (o : Option X) → option_map f o ≡ conflict_between pool b a → is_some o ≡ true → exclude_each_other pool a b ≡ true
  by_conflict_back f o is h = kept_out_back (conflicts b a (ap is_some (sym is) ∙ some_mapped f o h))

  pub by_name : is_some (shared_name_at_places pool a b) ≡ true → exclude_each_other pool a b ≡ true
  by_name h =
      let found = some_is (shared_name_at_places pool a b) h in
      let held : share_a_name pool a b ≡ true = name_held (candidate_at pool a) (candidate_at pool b) found.0 found.1 in
      kept_out (rw held (or_true (is_conflict_of_first_met_by_second pool a b)))
    where
      or_true : (x : Bool) → (x || true) ≡ true
      or_true true = refl
      or_true false = refl

pub some_copied : {X : Type 0} (o : Option (Bor X)) (copy : Option X) → option_copied o ≡ copy → is_some o ≡ true → is_some copy ≡ true
some_copied None copy e h = absurd (cc)
some_copied (Some x) copy e h = ap is_some (sym e)

-- ---- what is found, by the candidates at the places

pub conflict_at : (pool : SelectionProblem) (a b : ℕ) (one other : Candidate) (depends : List Dependency) → candidate_at pool a ≡ Some one → candidate_at pool b ≡ Some other → depends ≡ one.depends → conflict_between pool a b ≡ find (is_conflict_met_by other) depends
conflict_at pool a b one other depends is_one is_other own = rw (is_one, is_other) (ap (find (is_conflict_met_by other)) (sym own))

pub own_name_at : (pool : SelectionProblem) (a b : ℕ) (one other : Candidate) (name again : List ℕ) → candidate_at pool a ≡ Some one → candidate_at pool b ≡ Some other → name ≡ one.name → occupies_name name other ≡ true → again ≡ one.name → shared_name_at_places pool a b ≡ Some again
own_name_at pool a b one other name again is_one is_other named occupied same =
    rw (is_one, is_other, ap (λ (n : List ℕ). occupies_name n other) (sym named) ∙ occupied) (ap Some (sym same))

pub provided_name_at : (pool : SelectionProblem) (a b : ℕ) (one other : Candidate) (name : List ℕ) (provides : List Dependency) → candidate_at pool a ≡ Some one → candidate_at pool b ≡ Some other → name ≡ one.name → occupies_name name other ≡ false → provides ≡ one.provides → shared_name_at_places pool a b ≡ option_map (λ (p : Dependency). p.name) (find (both_occupy other) provides)
provided_name_at pool a b one other name provides is_one is_other named occupied own =
    rw (is_one, is_other, ap (λ (n : List ℕ). occupies_name n other) (sym named) ∙ occupied) (ap (λ (ps : List Dependency). option_map (λ (p : Dependency). p.name) (find (both_occupy other) ps)) (sym own))
