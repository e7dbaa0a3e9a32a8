-- A refutation of a world: steps from which it follows that no selection satisfies the world. The rules
-- of a satisfying selection are in `docs/selection.md`, "What satisfies world". The law
-- `a_refuted_world_has_no_selection` says that a refutation is a proof.
use Rattle.std.specs.Prelude.{◌≡◌, ◌<◌, ℕ, true, if◌then◌else◌, List, [], ◌∷◌, ◌++◌, Option, Some, None, slice_get}
use Rattle.dep_core.specs.Dependency.{Dependency}
use Rattle.search_tables.specs.candidate_core.Candidates.{entry}
use Rattle.search_tables.specs.candidate_core.Rank.{SelectionProblem}
use Rattle.search_tables.specs.candidate_core.Options.{IsIn, options_for}
use Rattle.search_tables.specs.Selection.{AreAllMembersOf, depends_at, exclude_each_other}
use Rattle.unmet_world.specs.declared.refutation.Owner.{Owner}
use Rattle.unmet_world.specs.declared.refutation.Owner.TheVariants.{World, Package}
use Rattle.unmet_world.specs.declared.refutation.Want.{Want}
use Rattle.unmet_world.specs.declared.refutation.Step.{Step}
use Rattle.unmet_world.specs.declared.refutation.Step.TheVariants.{Broken, Excluded, Sure}
use Rattle.unmet_world.specs.declared.refutation.Refutation.{Refutation}

-- ---- wanted dependencies

-- the dependencies of an owner (world, or the candidate at a place), conflicts too
abbrev pub dependencies_of_owner : SelectionProblem → Owner → List Dependency
dependencies_of_owner pool World = pool.world
dependencies_of_owner pool (Package c) = depends_at pool c

-- the dependency; None if it is a conflict
abbrev pub if_positive : Option Dependency → Option Dependency
if_positive None = None
if_positive (Some d) = if d.conflict then None else Some d

-- the dependency that an owner wants to be met; None if the owner has none at the index, or if it is a conflict
abbrev pub wanted : SelectionProblem → Want → Option Dependency
wanted pool want = if_positive (slice_get (dependencies_of_owner pool want.owner) want.index)

-- each candidate that may be selected and meets the wanted dependency is one of these; there is such a dependency
abbrev pub IsMetOnlyBy : SelectionProblem → Want → List ℕ → Type 0
IsMetOnlyBy pool want ids =
    (d : Dependency) × (wanted pool want ≡ Some d) × AreAllMembersOf (options_for pool (entry d)) ids

-- no candidate that may be selected meets the wanted dependency
abbrev pub IsUnmet : SelectionProblem → Want → Type 0
IsUnmet pool want = IsMetOnlyBy pool want []

-- the entry of world at an index, counted from 0, as a wanted dependency
abbrev pub want_of_world_entry : ℕ → Want
want_of_world_entry index = record { owner = World; index = index }

-- the entry of world at an index, counted from 0, is the first that no candidate meets which may be selected
pub record IsFirstUnmetOfWorld (pool : SelectionProblem) (index : ℕ) : Type 0 where
  -- no candidate that may be selected meets this entry
  pub unmet : IsUnmet pool (want_of_world_entry index)
  -- each entry before this one is met by such a candidate, or is a conflict
  pub first : (before : ℕ) → before < index → IsUnmet pool (want_of_world_entry before) → ⊥

-- ---- steps

-- the candidate that a step rules out (no satisfying selection has it), as a list; empty if the step makes one sure
abbrev pub ids_ruled_out_by_step : Step → List ℕ
ids_ruled_out_by_step (Broken id index) = id ∷ []
ids_ruled_out_by_step (Excluded id by) = id ∷ []
ids_ruled_out_by_step (Sure id want) = []

-- the candidate that a step makes sure (each satisfying selection has it), as a list; empty if the step rules one out
abbrev pub ids_made_sure_by_step : Step → List ℕ
ids_made_sure_by_step (Broken id index) = []
ids_made_sure_by_step (Excluded id by) = []
ids_made_sure_by_step (Sure id want) = id ∷ []

-- the candidates that these steps rule out
abbrev pub ids_ruled_out : List Step → List ℕ
ids_ruled_out [] = []
ids_ruled_out (step ∷ steps) = ids_ruled_out_by_step step ++ ids_ruled_out steps

-- the candidates that these steps make sure
abbrev pub ids_made_sure : List Step → List ℕ
ids_made_sure [] = []
ids_made_sure (step ∷ steps) = ids_made_sure_by_step step ++ ids_made_sure steps

-- each satisfying selection meets the dependencies of this owner: world, or one of the candidates that are sure
abbrev pub IsSureOwner : List ℕ → Owner → Type 0
IsSureOwner sure World = Unit {0}
IsSureOwner sure (Package c) = IsIn c sure

-- a step follows, if the candidates `out` are ruled out and the candidates `sure` are sure. A candidate is ruled out if
-- it has a dependency that only ruled-out candidates meet, or if it and a sure candidate exclude each other. It is sure
-- if all others that meet a dependency of a sure owner are ruled out
abbrev pub IsDerivationStep : SelectionProblem → List ℕ → List ℕ → Step → Type 0
IsDerivationStep pool out sure (Broken id index) =
    IsMetOnlyBy pool (record { owner = Package id; index = index }) out
IsDerivationStep pool out sure (Excluded id by) = IsIn by sure × (exclude_each_other pool by id ≡ true)
IsDerivationStep pool out sure (Sure id want) =
    IsSureOwner sure want.owner × IsMetOnlyBy pool want (id ∷ out)

-- each step follows from those after it in the list
abbrev pub AreDerivationSteps : SelectionProblem → List Step → Type 0
AreDerivationSteps pool [] = Unit {0}
AreDerivationSteps pool (step ∷ steps) =
    IsDerivationStep pool (ids_ruled_out steps) (ids_made_sure steps) step × AreDerivationSteps pool steps

-- ---- refutations

-- a valid refutation: its steps rule out all candidates that meet a dependency of a sure owner
pub record IsRefutation (pool : SelectionProblem) (r : Refutation) : Type 0 where
  -- each step follows from those after it
  pub steps : AreDerivationSteps pool r.steps.items
  -- the owner of the end, a dependency, is sure by these steps
  pub sure : IsSureOwner (ids_made_sure r.steps.items) r.end.owner
  -- each candidate that meets the end is ruled out by these steps
  pub none_left : IsMetOnlyBy pool r.end (ids_ruled_out r.steps.items)
