-- A set of candidates, as a list of places with a mark for each place. No rule of a document: serves the contract of
-- `src/candidate_set.rt`.
use Rattle.std.specs.Prelude.{ℕ, Bool, false, List, slice_index_or}
use Rattle.std.specs.Bool.{MatchBool}
use Rattle.pool_core.specs.candidate_core.Options.{IsIn}
use Rattle.search_tables.specs.Selection.{AreDistinct}

-- each mark says whether its place is in the list, and the list has each candidate once
pub record AreMarksOfPlaces (marks : List Bool) (ids : List ℕ) : Type 0 where
  -- the mark at a place is true exactly if the place is in the list
  pub told : (c : ℕ) → MatchBool (slice_index_or marks c false) (IsIn c ids) (IsIn c ids →
      ⊥)
  -- no place occurs twice in the list
  pub once : AreDistinct ids
