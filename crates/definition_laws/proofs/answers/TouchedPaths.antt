-- The files whose folders count for triggers.
use Rattle.std.proofs.Common.{◌≡◌, ◌⊎◌, inl, inr, ◌↔◌, ℕ, true, List, map, Contains}
use Rattle.base_core.proofs.Rising as rising
use Rattle.base_core.specs.Files.{Files}
use Rattle.base_core.specs.Lists.{IsIn}
use Rattle.base_core.proofs.Listed.{in_both}
use Rattle.change_outcome.specs.own_core.FileChange.{FileChange}
use Rattle.change_outcome.specs.own_core.FilesAfter.{is_removed, is_listing_written_under_name}
use Rattle.change_outcome.specs.own_core.PlanLists.{FileWrite, file_writes_of, removals_of}
use Rattle.change_outcome.proofs.own_core.InOrder.{in_left, in_right}
use Rattle.change_outcome.specs.ChangeOutcome.{touched_paths}
use Rattle.definition_laws.proofs.answers.Members.{listed, risen}

abbrev written_paths : FileChange → Files → List (List ℕ)
written_paths change files = map (λ (w : FileWrite). w.name) (file_writes_of change files)

abbrev pub Written : Type 0
Written = (change : FileChange) (files : Files) (name : List ℕ) → Contains (written_paths change files) name ↔ (is_listing_written_under_name change files name ≡ true)

abbrev pub Removed : Type 0
Removed = (change : FileChange) (files : Files) (path : List ℕ) → Contains (removals_of change files) path ↔ (is_removed change files path ≡ true)

pub touched_are : Written → Removed → (change : FileChange) (files : Files) (path : List ℕ)
    → IsIn path (touched_paths change files) ↔ ((is_listing_written_under_name change files path ≡ true) ⊎ (is_removed change files path ≡ true))
touched_are written removed change files path = (
  λ at. elim (in_both path (written_paths change files) (removals_of change files) (risen path (touched_paths change files) at)) [
    | inl here ↦ inl ((written change files path).0 (rising.contains_from_in (written_paths change files) path here))
    | inr there ↦ inr ((removed change files path).0 (rising.contains_from_in (removals_of change files) path there))
  ],
  λ e. listed path (touched_paths change files) (elim e [
    | inl w ↦ in_left path (written_paths change files) (removals_of change files) (rising.in_from_contains (written_paths change files) path ((written change files path).1 w))
    | inr r ↦ in_right path (written_paths change files) (removals_of change files) (rising.in_from_contains (removals_of change files) path ((removed change files path).1 r))
  ]),
)
