-- A dependency raises a need, and a conflict or a shared name excludes.
use Rattle.std.proofs.Common.{◌≡◌, inl, inr, ℕ, Bool, true, false, List, [], ◌∷◌, refl, sym, subst, ap, ◌∙◌}
use Rattle.std.specs.Prelude.{Option, Some, slice_get, not, ◌&&◌, ◌==◌}
use Rattle.std.specs.Option.{option_map_or}
use Rattle.std.specs.List.{filter, flat_map, list_any}
use Rattle.std.proofs.lemmas.Bool.{and_parts}
use Rattle.dep_core.specs.Dependency.{Dependency}
use Rattle.search_choices.specs.candidate_core.Candidates.{Candidate, Need, entry, meets_dependency, occupies_name}
use Rattle.search_choices.specs.candidate_core.Options.{IsIn}
use Rattle.search_choices.specs.candidate_core.Rank.{SelectionProblem, candidate_at, candidate_at_passes}
use Rattle.search_choices.specs.search_tables.Selection.{is_conflict_of_first_met_by_second, depends_at, does_exclude, exclude_each_other, needs, occupied_names, occupied_names_at, positive_needs, needs_of_world_and_chosen, share_a_name}
use Rattle.search_choices.proofs.search_tables.Theory.{in_left, in_right}
use Rattle.search_choices.proofs.search_tables.Places.{there_is}
use Rattle.search_choices.proofs.search_tables.PoolFacts.{in_filter, in_flat, in_map}
use Rattle.search_choices.proofs.search_tables.Satisfying.{any_one, one_any, true_or}

module _ (pool : SelectionProblem) where
  positive : (d : Dependency) (deps : List Dependency) → IsIn d deps → d.conflict ≡ false → IsIn (entry d) (positive_needs deps)
  positive d deps there plain =
      let p : Dependency → Bool = λ (e : Dependency). not e.conflict in
      in_map entry d (filter p deps) (in_filter p d deps there (ap not plain))

  -- an entry of world is a need
  pub world_raises : (d : Dependency) → IsIn d pool.world → d.conflict ≡ false → IsIn (entry d) (needs pool [])
  world_raises d there plain =
      in_left (entry d) (needs_of_world_and_chosen pool []) _ (in_left (entry d) (positive_needs pool.world) _ (positive d pool.world there plain))

  -- a dependency is a need of the candidate that has it
  pub choice_raises : (c : ℕ) (d : Dependency) → IsIn d (depends_at pool c) → d.conflict ≡ false → IsIn (entry d) (needs pool (c ∷ []))
  choice_raises c d there plain =
      let of : ℕ → List Need = λ k. positive_needs (depends_at pool k) in
      in_left (entry d) (needs_of_world_and_chosen pool (c ∷ [])) _ (in_right (entry d) (positive_needs pool.world) (flat_map of (c ∷ []))
      (in_flat of (entry d) c (c ∷ []) (inl refl) (positive d (depends_at pool c) there plain)))

  -- a dependency of the candidate that is there
  pub depends_of : (a : ℕ) (details : Candidate) → candidate_at pool a ≡ Some details → (deps : List Dependency) (i : ℕ) (d : Dependency) → deps ≡ details.depends → slice_get deps i ≡ Some d → IsIn d (depends_at pool a)
  depends_of a details here deps i d is at =
      let same : depends_at pool a ≡ details.depends = ap (λ (o : Option Candidate). option_map_or (λ (c : Candidate). c.depends) o []) here in
      subst (λ (z : List Dependency). IsIn d z) (is ∙ sym same) (there_is deps i d at).1

  at_place : (b : ℕ) (other : Candidate) (p : Candidate → Bool) → candidate_at pool b ≡ Some other → p other ≡ true → candidate_at_passes pool p b ≡ true
  at_place b other p here is = ap (λ (o : Option Candidate). option_map_or p o false) here ∙ is

  excludes : (a b : ℕ) → (a == b) ≡ false → does_exclude pool a b ≡ true → exclude_each_other pool a b ≡ true
  excludes a b differ out = rw (differ, out) refl

  -- a conflict that the other meets
  pub conflict_excludes : (a b : ℕ) (details other : Candidate) → candidate_at pool a ≡ Some details → candidate_at pool b ≡ Some other → (a == b) ≡ false → list_any (λ (d : Dependency). d.conflict && meets_dependency d other) details.depends ≡ true → exclude_each_other pool a b ≡ true
  conflict_excludes a b details other here there differ h =
      let one = any_one (λ (d : Dependency). d.conflict && meets_dependency d other) details.depends h in
      let parts = and_parts one.0.conflict (meets_dependency one.0 other) one.2 in
      let same : depends_at pool a ≡ details.depends = ap (λ (o : Option Candidate). option_map_or (λ (c : Candidate). c.depends) o []) here in
      let inside : IsIn one.0 (depends_at pool a) = subst (λ (z : List Dependency). IsIn one.0 z) (sym same) one.1 in
      let conflict = parts.0 in
      let meets : candidate_at_passes pool (meets_dependency one.0) b ≡ true = at_place b other (meets_dependency one.0) there parts.1 in
      let out : is_conflict_of_first_met_by_second pool a b ≡ true = one_any (λ (d : Dependency). d.conflict && candidate_at_passes pool (meets_dependency d) b) (depends_at pool a) one.0 inside (rw conflict meets) in
      excludes a b differ (true_or (is_conflict_of_first_met_by_second pool a b) (share_a_name pool a b) (inl out))

  -- a name that both occupy
  pub shared_name_excludes : (a b : ℕ) (details other : Candidate) → candidate_at pool a ≡ Some details → candidate_at pool b ≡ Some other → (a == b) ≡ false → list_any (λ (name : List ℕ). occupies_name name other) (occupied_names details) ≡ true → exclude_each_other pool a b ≡ true
  shared_name_excludes a b details other here there differ h =
      let one = any_one (λ (name : List ℕ). occupies_name name other) (occupied_names details) h in
      let same : occupied_names_at pool a ≡ occupied_names details = ap (λ (o : Option Candidate). option_map_or occupied_names o []) here in
      let inside : IsIn one.0 (occupied_names_at pool a) = subst (λ (z : List (List ℕ)). IsIn one.0 z) (sym same) one.1 in
      let out : share_a_name pool a b ≡ true = one_any (λ (name : List ℕ). candidate_at_passes pool (occupies_name name) b) (occupied_names_at pool a) one.0 inside (at_place b other (occupies_name one.0) there one.2) in
      excludes a b differ (true_or (is_conflict_of_first_met_by_second pool a b) (share_a_name pool a b) (inr out))
