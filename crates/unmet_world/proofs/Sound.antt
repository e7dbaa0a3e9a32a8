-- What the steps of a refutation rule out is in no satisfying selection, and what they make sure is in each.
use Rattle.std.proofs.Common.{◌≡◌, inl, inr, ℕ, zero, suc, Bool, true, false, List, [], ◌∷◌, refl, sym, subst, ap}
use Rattle.std.specs.Prelude.{Option, Some, None, not, slice_get, if◌then◌else◌}
use Rattle.dep_core.specs.Dependency.{Dependency}
use Rattle.search_tables.specs.candidate_core.Candidates.{Need, entry}
use Rattle.search_tables.specs.candidate_core.Rank.{SelectionProblem, is_eligible_at, meets_at}
use Rattle.search_tables.specs.candidate_core.Options.{IsIn, options_for}
use Rattle.search_tables.specs.Selection.{IsSatisfying, is_met, positive_needs}
use Rattle.search_tables.proofs.PoolFacts.{any_in, in_filter, in_map}
use Rattle.search_tables.proofs.Satisfying.{closed_of_satisfying}
use Rattle.unmet_world.specs.Refutation.{AreDerivationSteps, IsDerivationStep, IsMetOnlyBy, IsRefutation, IsSureOwner, if_positive, ids_made_sure, dependencies_of_owner, ids_ruled_out}
use Rattle.unmet_world.specs.declared.refutation.Owner.{Owner}
use Rattle.unmet_world.specs.declared.refutation.Owner.TheVariants.{World, Package}
use Rattle.unmet_world.specs.declared.refutation.Want.{Want}
use Rattle.unmet_world.specs.declared.refutation.Step.{Step}
use Rattle.unmet_world.specs.declared.refutation.Step.TheVariants.{Broken, Excluded, Sure}
use Rattle.unmet_world.specs.declared.refutation.Refutation.{Refutation}

-- ---- what is wanted is a need

at_index : {X : Type 0} (xs : List X) (i : ℕ) (x : X) → slice_get xs i ≡ Some x → IsIn x xs
at_index [] zero x e = absurd (cc)
at_index [] (suc i) x e = absurd (cc)
at_index (y ∷ xs) zero x e = inl (cc)
at_index (y ∷ xs) (suc i) x e = inr (at_index xs i x e)

positive_is : (o : Option Dependency) (d : Dependency) → if_positive o ≡ Some d → (o ≡ Some d) × (not d.conflict ≡ true)
positive_is None d e = absurd (cc)
positive_is (Some x) d e = by x.conflict refl e
  where
    by : (b : Bool) → x.conflict ≡ b → (if b then None else Some x) ≡ Some d → (Some x ≡ Some d) × (not d.conflict ≡ true)
    by true is e = absurd (cc)
    by false is e =
        let same : x ≡ d = cc in
        (e, subst (λ (z : Dependency). not z.conflict ≡ true) same (ap not is))

is_need : (deps : List Dependency) (i : ℕ) (d : Dependency) → if_positive (slice_get deps i) ≡ Some d → IsIn (entry d) (positive_needs deps)
is_need deps i d e =
    let p = positive_is (slice_get deps i) d e in
    in_map entry d _ (in_filter (λ (x : Dependency). not x.conflict) d deps (at_index deps i d p.0) p.1)

module _ (pool : SelectionProblem) (listed : (need : Need) (c : ℕ) → is_eligible_at pool c ≡ true → meets_at pool c need ≡ true → IsIn c (options_for pool need)) (S : List ℕ) (s : IsSatisfying pool S) where
  -- a selection that has one of the candidates
  abbrev HasOneOf : List ℕ → Type 0
  HasOneOf ids = (c : ℕ) × IsIn c ids × IsIn c S

  -- what an owner wants is met, if the owner is world or a member
  abbrev IsOwner : Owner → Type 0
  IsOwner World = Unit {0}
  IsOwner (Package c) = IsIn c S

  met : (owner : Owner) (q : Need) → IsOwner owner → IsIn q (positive_needs (dependencies_of_owner pool owner)) → is_met pool S q ≡ true
  met World q own h = s.world_met q h
  met (Package c) q own h = s.depends_met c q own h

  one_of : (want : Want) (ids : List ℕ) → IsOwner want.owner → IsMetOnlyBy pool want ids → HasOneOf ids
  one_of want ids own only =
      let d = only.0 in
      let m = any_in (λ c. meets_at pool c (entry d)) S (met want.owner (entry d) own (is_need (dependencies_of_owner pool want.owner) want.index d only.1)) in
      (m.0, only.2 m.0 (listed (entry d) m.0 (s.eligible m.0 m.1) m.2), m.1)

  -- what steps say of the selection
  record Holds (out sure : List ℕ) : Type 0 where
    pub none : (c : ℕ) → IsIn c out → IsIn c S → ⊥
    pub each : (c : ℕ) → IsIn c sure → IsIn c S

  owner_of : (sure : List ℕ) (owner : Owner) → ((c : ℕ) → IsIn c sure → IsIn c S) → IsSureOwner sure owner → IsOwner owner
  owner_of sure World each h = tt
  owner_of sure (Package c) each h = each c h

  is_it : (P : ℕ → Type 0) (c id : ℕ) (rest : List ℕ) → P id → ((o : ℕ) → IsIn o rest → P o) → IsIn c (id ∷ rest) → P c
  is_it P c id rest here there (inl e) = subst P (sym e) here
  is_it P c id rest here there (inr h) = there c h

  more : (step : Step) (steps : List Step) → IsDerivationStep pool (ids_ruled_out steps) (ids_made_sure steps) step → Holds (ids_ruled_out steps) (ids_made_sure steps) → Holds (ids_ruled_out (step ∷ steps)) (ids_made_sure (step ∷ steps))
  more (Broken id index) steps f holds = record {
    none = λ c h. is_it (λ (z : ℕ). IsIn z S → ⊥) c id (ids_ruled_out steps) (λ there.
        let one = one_of (record { owner = Package id; index = index }) (ids_ruled_out steps) there f in
        holds.none one.0 one.1 one.2) holds.none h;
    each = holds.each;
  }
  more (Excluded id by) steps f holds = record {
    none = λ c h. is_it (λ (z : ℕ). IsIn z S → ⊥) c id (ids_ruled_out steps) (λ there.
        (closed_of_satisfying pool S s).0.2 by id (holds.each by f.0) there f.1) holds.none h;
    each = holds.each;
  }
  more (Sure id want) steps f holds = record {
    none = holds.none;
    each = λ c h. is_it (λ (z : ℕ). IsIn z S) c id (ids_made_sure steps) (
        let one = one_of want (id ∷ ids_ruled_out steps) (owner_of (ids_made_sure steps) want.owner holds.each f.0) f.1 in
        elim one.1 [
          | inl e ↦ subst (λ (z : ℕ). IsIn z S) e one.2
          | inr out ↦ absurd (holds.none one.0 out one.2)
        ]) holds.each h;
  }

  all : (steps : List Step) → AreDerivationSteps pool steps → Holds (ids_ruled_out steps) (ids_made_sure steps)
  all [] h = record { none = λ c bad there. bad; each = λ c bad. absurd bad }
  all (step ∷ steps) h = more step steps h.0 (all steps h.1)

  pub no_selection : (r : Refutation) → IsRefutation pool r → ⊥
  no_selection r is =
      let holds = all r.steps.items is.steps in
      let one = one_of r.end (ids_ruled_out r.steps.items) (owner_of (ids_made_sure r.steps.items) r.end.owner holds.each is.sure) is.none_left in
      holds.none one.0 one.1 one.2
