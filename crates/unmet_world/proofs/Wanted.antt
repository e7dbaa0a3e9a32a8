-- The dependency that an owner wants to be met, by what is found of the owner.
use Rattle.std.proofs.Common.{◌≡◌, ◌∙◌, ◌≤◌, ℕ, List, [], Option, Some, None, length, ap, sym}
use Rattle.std.specs.Prelude.{slice_get}
use Rattle.std.specs.Option.{option_map_or}
use Rattle.std.proofs.lemmas.Option.{slice_get_past}
use Rattle.dep_core.specs.Dependency.{Dependency}
use Rattle.search_tables.specs.candidate_core.Candidates.{Candidate}
use Rattle.search_tables.specs.candidate_core.Rank.{SelectionProblem, candidate_at}
use Rattle.unmet_world.specs.Refutation.{dependencies_of_owner, if_positive, wanted}
use Rattle.unmet_world.specs.declared.refutation.Owner.{Owner}
use Rattle.unmet_world.specs.declared.refutation.Owner.TheVariants.{Package}
use Rattle.unmet_world.specs.declared.refutation.Want.{Want}

-- the dependencies of a package, by the candidate that is found at its place
pub of_package : (pool : SelectionProblem) (id place : ℕ) (found : Option Candidate) (ds : List Dependency) → place ≡ id → found ≡ candidate_at pool place → ds ≡ option_map_or (λ (k : Candidate). k.depends) found [] → ds ≡ dependencies_of_owner pool (Package id)
of_package pool id place found ds same at is =
    is ∙ ap (λ (o : Option Candidate). option_map_or (λ (k : Candidate). k.depends) o []) (at ∙ ap (candidate_at pool) same)

module _ (pool : SelectionProblem) (want : Want) (owner : Owner) (ds : List Dependency) where
  -- it is looked for among the dependencies of the owner
  wanted_of : want.owner ≡ owner → ds ≡ dependencies_of_owner pool owner → if_positive (slice_get ds want.index) ≡ wanted pool want
  wanted_of who are = ap (λ (l : List Dependency). if_positive (slice_get l want.index)) (are ∙ ap (dependencies_of_owner pool) (sym who))

  -- the owner has fewer dependencies
  pub wants_none : want.owner ≡ owner → ds ≡ dependencies_of_owner pool owner → length ds ≤ want.index → None ≡ wanted pool want
  wants_none who are past = ap if_positive (sym (slice_get_past ds want.index past)) ∙ wanted_of who are

  -- the owner has one at the index
  pub wants_one : (d : Dependency) (found : Option Dependency) → want.owner ≡ owner → ds ≡ dependencies_of_owner pool owner → slice_get ds want.index ≡ Some d → found ≡ if_positive (Some d) → found ≡ wanted pool want
  wants_one d found who are at is = is ∙ (ap if_positive (sym at) ∙ wanted_of who are)

-- the owner has none
pub wants_nothing : (pool : SelectionProblem) (want : Want) (owner : Owner) → want.owner ≡ owner → [] ≡ dependencies_of_owner pool owner → None ≡ wanted pool want
wants_nothing pool want owner who are = wanted_of pool want owner [] who are
