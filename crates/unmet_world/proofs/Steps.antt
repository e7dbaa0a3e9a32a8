-- What follows from some candidates that are ruled out or sure follows from more.
use Rattle.std.proofs.Common.{◌≡◌, inl, inr, ℕ, zero, suc, List, [], ◌∷◌, ◌++◌, drop, length, sym, subst, ap, ◌∙◌, arith}
use Rattle.std.specs.Prelude.{Bool, Some, Result, Ok, Err, IfOk, OnOk, slice_get, true}
use Rattle.search_tables.specs.Reasons.{HasSameMembers}
use Rattle.std.proofs.lemmas.List.{drop_all}
use Rattle.search_tables.specs.candidate_core.Rank.{SelectionProblem}
use Rattle.search_tables.specs.candidate_core.Options.{IsIn}
use Rattle.search_tables.specs.Selection.{AreAllMembersOf}
use Rattle.search_tables.proofs.Theory.{in_left, in_right, in_append}
use Rattle.unmet_world.specs.Refutation.{AreDerivationSteps, IsDerivationStep, IsMetOnlyBy, IsRefutation, IsSureOwner, ids_made_sure, ids_made_sure_by_step, ids_ruled_out, ids_ruled_out_by_step}
use Rattle.unmet_world.specs.declared.refutation.Owner.{Owner}
use Rattle.unmet_world.specs.declared.refutation.Owner.TheVariants.{World, Package}
use Rattle.unmet_world.specs.declared.refutation.Want.{Want}
use Rattle.unmet_world.specs.declared.refutation.Refutation.{Refutation}
use Rattle.unmet_world.specs.declared.refutation.Step.{Step}
use Rattle.unmet_world.specs.declared.refutation.Step.TheVariants.{Broken, Excluded, Sure}

pub members_both : (xs ys zs : List ℕ) → AreAllMembersOf ys zs → AreAllMembersOf (xs ++ ys) (xs ++ zs)
members_both xs ys zs more c h = elim (in_append c xs ys h) [
  | inl a ↦ in_left c xs zs a
  | inr b ↦ in_right c xs zs (more c b)
]

module _ (pool : SelectionProblem) where
  pub only_by_more : (want : Want) (ids more : List ℕ) → AreAllMembersOf ids more → IsMetOnlyBy pool want ids → IsMetOnlyBy pool want more
  only_by_more want ids more members only = (only.0, only.1, λ c h. members c (only.2 c h))

  pub sure_more : (owner : Owner) (sure more : List ℕ) → AreAllMembersOf sure more → IsSureOwner sure owner → IsSureOwner more owner
  sure_more World sure more members h = tt
  sure_more (Package c) sure more members h = members c h

  pub follows_more : (step : Step) (out out' sure sure' : List ℕ) → AreAllMembersOf out out' → AreAllMembersOf sure sure' → IsDerivationStep pool out sure step → IsDerivationStep pool out' sure' step
  follows_more (Broken id index) out out' sure sure' outs sures f = only_by_more (record { owner = Package id; index = index }) out out' outs f
  follows_more (Excluded id by) out out' sure sure' outs sures f = (sures by f.0, f.1)
  follows_more (Sure id want) out out' sure sure' outs sures f = (
    sure_more want.owner sure sure' sures f.0,
    only_by_more want (id ∷ out) (id ∷ out') (members_both (id ∷ []) out out' outs) f.1,
  )

-- ---- the steps from an index on

drop_at : {X : Type 0} (xs : List X) (i : ℕ) (x : X) → slice_get xs i ≡ Some x → drop i xs ≡ x ∷ drop (suc i) xs
drop_at [] zero x e = absurd (cc)
drop_at [] (suc i) x e = absurd (cc)
drop_at (y ∷ xs) zero x e = let same : y ≡ x = cc in ap (λ z. z ∷ xs) same
drop_at (y ∷ xs) (suc i) x e = drop_at xs i x e

-- some steps follow, and what is gathered is by them
pub record AreGathered (pool : SelectionProblem) (steps : List Step) (out sure : List ℕ) : Type 0 where
  pub steps_follow : AreDerivationSteps pool steps
  pub out_by : AreAllMembersOf out (ids_ruled_out steps)
  pub sure_by : AreAllMembersOf sure (ids_made_sure steps)

members_trans : (xs ys zs : List ℕ) → AreAllMembersOf xs ys → AreAllMembersOf ys zs → AreAllMembersOf xs zs
members_trans xs ys zs one other c h = other c (one c h)

one_more : (pool : SelectionProblem) (step : Step) (steps : List Step) (out sure out' sure' : List ℕ) → AreGathered pool steps out sure → IsDerivationStep pool out sure step → AreAllMembersOf out' (ids_ruled_out_by_step step ++ out) → AreAllMembersOf sure' (ids_made_sure_by_step step ++ sure) → AreGathered pool (step ∷ steps) out' sure'
one_more pool step steps out sure out' sure' g f outs sures = record {
  steps_follow = (follows_more pool step out (ids_ruled_out steps) sure (ids_made_sure steps) g.out_by g.sure_by f, g.steps_follow);
  out_by = members_trans out' (ids_ruled_out_by_step step ++ out) (ids_ruled_out_by_step step ++ ids_ruled_out steps) outs (members_both (ids_ruled_out_by_step step) out (ids_ruled_out steps) g.out_by);
  sure_by = members_trans sure' (ids_made_sure_by_step step ++ sure) (ids_made_sure_by_step step ++ ids_made_sure steps) sures (members_both (ids_made_sure_by_step step) sure (ids_made_sure steps) g.sure_by);
}

pub gathered_from : (pool : SelectionProblem) (steps : List Step) (i : ℕ) (step : Step) (out sure out' sure' : List ℕ) → slice_get steps i ≡ Some step → AreGathered pool (drop (suc i) steps) out sure → IsDerivationStep pool out sure step → AreAllMembersOf out' (ids_ruled_out_by_step step ++ out) → AreAllMembersOf sure' (ids_made_sure_by_step step ++ sure) → AreGathered pool (drop i steps) out' sure'
gathered_from pool steps i step out sure out' sure' at g f outs sures =
    subst (λ (z : List Step). AreGathered pool z out' sure') (sym (drop_at steps i step at)) (one_more pool step (drop (suc i) steps) out sure out' sure' g f outs sures)

pub none_gathered : (pool : SelectionProblem) (steps : List Step) (n : ℕ) (out sure : List ℕ) → n ≡ length steps → out ≡ [] → sure ≡ [] → AreGathered pool (drop n steps) out sure
none_gathered pool steps n out sure is no_out no_sure =
    let none : drop n steps ≡ [] = drop_all n steps (omega arith) in
    subst (λ (z : List Step). AreGathered pool z out sure) (sym none) (record {
      steps_follow = tt;
      out_by = λ c h. subst (λ (z : List ℕ). IsIn c z) no_out h;
      sure_by = λ c h. subst (λ (z : List ℕ). IsIn c z) no_sure h;
    })

-- ---- what a call has done

-- a candidate that is added stands first
pub added : {T E : Type 0} (r : Result T E) (new old : List ℕ) (id found : ℕ) → found ≡ id → OnOk r (HasSameMembers new (old ++ found ∷ [])) → OnOk r (AreAllMembersOf new (id ∷ old))
added (Err e) new old id found is h = tt
added (Ok x) new old id found is h = λ c there. elim (in_append c old (found ∷ []) (h.0 c there)) [
  | inl a ↦ inr a
  | inr b ↦ elim b [ inl e ↦ inl (e ∙ is) | inr bad ↦ absurd bad ]
]

-- what follows if a test holds
pub if_true : {E : Type 0} {P Q : Type 0} (r : Result Bool E) → (P → Q) → IfOk r (λ is. is ≡ true → P) → IfOk r (λ is. is ≡ true → Q)
if_true (Err e) to h = tt
if_true (Ok b) to h = λ is. to (h is)

-- the steps that were gathered from the first one on, and the end, are a refutation
pub refuted : (pool : SelectionProblem) (r : Refutation) (left : ℕ) (out sure : List ℕ) → left ≡ 0 → AreGathered pool (drop left r.steps.items) out sure → IsSureOwner sure r.end.owner → IsMetOnlyBy pool r.end out → IsRefutation pool r
refuted pool r left out sure none g is_sure only =
    let all : AreGathered pool r.steps.items out sure = subst (λ (n : ℕ). AreGathered pool (drop n r.steps.items) out sure) none g in
    record {
      steps = all.steps_follow;
      sure = sure_more pool r.end.owner sure (ids_made_sure r.steps.items) all.sure_by is_sure;
      none_left = only_by_more pool r.end out (ids_ruled_out r.steps.items) all.out_by only;
    }
