-- What is wanted is unmet if it has no option.
use Rattle.std.proofs.Common.{◌≡◌, ◌⊎◌, inl, inr, ℕ, zero, suc, ◌<◌, Bool, false, true, List, [], ◌∷◌, length, refl, sym, subst, ap, ◌∙◌, arith}
use Rattle.std.specs.Prelude.{if◌then◌else◌, Option, Some, None, Result, Ok, Err, IfOk, IfSome, MatchBool, MatchOption, Vec, ◌==◌, slice_get}
use Rattle.std.specs.declared.alloc.Global.{Global}
use Rattle.dep_core.specs.Repositories.{Repository}
use Rattle.unmet_world.specs.Lines.{IsExplanationOfUnmetWorldOfPool, explanation_text}
use Rattle.std.proofs.lemmas.Bool.Decides.{eqb_tells}
use Rattle.search_tables.specs.candidate_core.Candidates.{entry}
use Rattle.search_tables.specs.candidate_core.Rank.{SelectionProblem}
use Rattle.search_tables.specs.candidate_core.Options.{IsIn, options_for}
use Rattle.dep_core.specs.Dependency.{Dependency}
use Rattle.unmet_world.specs.Refutation.{AreDerivationSteps, IsFirstUnmetOfWorld, IsMetOnlyBy, IsRefutation, IsSureOwner, IsUnmet, if_positive, ids_made_sure, ids_ruled_out, wanted, want_of_world_entry}
use Rattle.unmet_world.specs.declared.refutation.Refutation.{Refutation}
use Rattle.unmet_world.specs.declared.refutation.Step.{Step}
use Rattle.unmet_world.specs.declared.refutation.Want.{Want}

pub told_by_options : (pool : SelectionProblem) (want : Want) (d : Dependency) → wanted pool want ≡ Some d → MatchBool (length (options_for pool (entry d)) == 0) (IsUnmet pool want) (IsUnmet pool want → ⊥)
told_by_options pool want d is = by (options_for pool (entry d)) refl
  where
    none_is : (n : ℕ) → (suc n == 0) ≡ false
    none_is n = elim (eqb_tells (suc n) 0) [ inl e ↦ absurd (omega (arith, e.1)) | inr e ↦ e.0 ]

    by : (ids : List ℕ) → options_for pool (entry d) ≡ ids → MatchBool (length (options_for pool (entry d)) == 0) (IsUnmet pool want) (IsUnmet pool want → ⊥)
    by [] none = rw (ap (λ (z : List ℕ). length z == 0) none) (d, is, λ c h. subst (IsIn c) none h)
    by (x ∷ ids) some = rw (ap (λ (z : List ℕ). length z == 0) some ∙ none_is (length ids)) (λ unmet.
        let found : Some d ≡ Some unmet.0 = sym is ∙ unmet.1 in
        let same : unmet.0 ≡ d = cc in
        unmet.2 x (subst (IsIn x) (sym (ap (λ (z : Dependency). options_for pool (entry z)) same ∙ some)) (inl refl)))

-- an entry of world that is no conflict is wanted, and a conflict is not
pub entry_wanted : (pool : SelectionProblem) (world : List Dependency) (index : ℕ) (d : Dependency) → world ≡ pool.world → slice_get world index ≡ Some d → d.conflict ≡ false → wanted pool (want_of_world_entry index) ≡ Some d
entry_wanted pool world index d same at is =
    ap if_positive (subst (λ (w : List Dependency). slice_get w index ≡ Some d) same at) ∙ by d.conflict is
  where
    by : (b : Bool) → b ≡ false → ◌≡◌ {A = Option Dependency} (if b then None else Some d) (Some d)
    by true h = absurd (cc)
    by false h = refl

pub conflict_unwanted : (pool : SelectionProblem) (world : List Dependency) (index : ℕ) (d : Dependency) → world ≡ pool.world → slice_get world index ≡ Some d → d.conflict ≡ true → IsUnmet pool (want_of_world_entry index) → ⊥
conflict_unwanted pool world index d same at is unmet =
    let none : wanted pool (want_of_world_entry index) ≡ None = ap if_positive (subst (λ (w : List Dependency). slice_get w index ≡ Some d) same at) ∙ by d.conflict is in
    let some : ◌≡◌ {A = Option Dependency} None (Some unmet.0) = sym none ∙ unmet.1 in
    absurd (cc)
  where
    by : (b : Bool) → b ≡ true → ◌≡◌ {A = Option Dependency} (if b then None else Some d) None
    by true h = refl
    by false h = absurd (cc)

-- an entry that is not there is not unmet
pub past : (pool : SelectionProblem) (index : ℕ) → IsUnmet pool (want_of_world_entry index) → index < length pool.world
past pool index unmet = by pool.world index unmet.0 unmet.1
  where
    by : (world : List Dependency) (i : ℕ) (d : Dependency) → if_positive (slice_get world i) ≡ Some d → i < length world
    by [] zero d e = absurd (cc)
    by [] (suc i) d e = absurd (cc)
    by (x ∷ world) zero d e = omega arith
    by (x ∷ world) (suc i) d e = let h = by world i d e in omega (arith, h)

-- of two first ones, both are the same
pub one_first : (pool : SelectionProblem) (i j : ℕ) → IsFirstUnmetOfWorld pool i → IsFirstUnmetOfWorld pool j → i ≡ j
one_first pool i j one other = elim (cases i j) [
  | inl less ↦ absurd (other.first i less one.unmet)
  | inr more ↦ elim more [
    | inl same ↦ same
    | inr less ↦ absurd (one.first j less other.unmet)
  ]
]
  where
    cases : (a b : ℕ) → (a < b) ⊎ ((a ≡ b) ⊎ (b < a))
    cases zero zero = inr (inl refl)
    cases zero (suc b) = inl (omega arith)
    cases (suc a) zero = inr (inr (omega arith))
    cases (suc a) (suc b) = elim (cases a b) [
      | inl l ↦ inl (omega (arith, l))
      | inr m ↦ elim m [ inl e ↦ inr (inl (ap suc e)) | inr l ↦ inr (inr (omega (arith, l))) ]
    ]

-- an unmet entry is a refutation without steps
pub alone : (pool : SelectionProblem) (r : Refutation) (index : ℕ) → r.steps.items ≡ [] → r.end ≡ want_of_world_entry index → IsFirstUnmetOfWorld pool index → IsRefutation pool r
alone pool r index none is first = record {
  steps = subst (AreDerivationSteps pool) (sym none) tt;
  sure = subst (λ (w : Want). IsSureOwner (ids_made_sure r.steps.items) w.owner) (sym is) tt;
  none_left = subst (λ (w : Want). IsMetOnlyBy pool w (ids_ruled_out r.steps.items)) (sym is) (subst (λ (z : List Step). IsMetOnlyBy pool (want_of_world_entry index) (ids_ruled_out z)) (sym none) first.unmet);
}

-- what the search for the first one tells
pub found_first : (pool : SelectionProblem) (found : Option ℕ) (index : ℕ) → found ≡ Some index → MatchOption found ((k : ℕ) → IsUnmet pool (want_of_world_entry k) → ⊥) (IsFirstUnmetOfWorld pool) → IsFirstUnmetOfWorld pool index
found_first pool found index is told = rw is at told

pub not_found : (pool : SelectionProblem) (found : Option ℕ) → found ≡ None → MatchOption found ((k : ℕ) → IsUnmet pool (want_of_world_entry k) → ⊥) (IsFirstUnmetOfWorld pool) → (k : ℕ) → IsUnmet pool (want_of_world_entry k) → ⊥
not_found pool found is told = rw is at told

-- where no entry is unmet, nothing is said of the first one
pub never : {E : Type 0} (pool : SelectionProblem) (r : Result (Option Refutation) E) → ((k : ℕ) → IsUnmet pool (want_of_world_entry k) → ⊥) → IfOk r (λ found. (index : ℕ) → IsFirstUnmetOfWorld pool index → MatchOption found ⊥ (λ x. (x.steps.items ≡ []) × (x.end ≡ want_of_world_entry index)))
never pool (Ok found) none = λ index first. absurd (none index first.unmet)
never pool (Err e) none = tt

-- the text that is printed of what was found explains the world
pub explained : {E : Type 0} (pool : SelectionProblem) (listed : List Dependency) (repositories : List Repository) (found : Option Refutation) (r : Result (Vec ℕ Global) E) → IfSome found (IsRefutation pool) → ((index : ℕ) → IsFirstUnmetOfWorld pool index → MatchOption found ⊥ (λ x. (x.steps.items ≡ []) × (x.end ≡ want_of_world_entry index))) → IfOk r (λ text. text.items ≡ explanation_text pool listed repositories found) → IfOk r (λ text. IsExplanationOfUnmetWorldOfPool pool listed repositories text.items)
explained pool listed repositories found (Ok text) refutes named says = record { found = found; refutes = refutes; named = named; says = says }
explained pool listed repositories found (Err e) refutes named says = tt
