-- What the contracts of `src/search.rt` say of a search under way. The search is described in
-- `docs/selection.md`, "How the search works".
use Rattle.std.specs.Prelude.{◌≡◌, ℕ, List, [], ◌∷◌, ◌++◌}
use Rattle.search_choices.specs.candidate_core.PackageMatches.{AreMatchesAmong}
use Rattle.search_choices.specs.search_tables.Selection.{AreAllMembersOf}
use Rattle.search_choices.specs.search_tables.Reasons.{AreCompatible, FrameValue, IsFrameTaking, IsReason}
use Rattle.search_choices.specs.declared.choices.Choices.{Choices}
use Rattle.search_choices.specs.Choices.{IsSearch, choices_of, pool_of}
use Rattle.solve_core.specs.declared.search.Search.{Search}

-- the choices and turns fit together, and what the search remembers and knows is about the pool of the choices
pub record IsUnderway (s : Search) : Type 0 where
  -- the choices are compatible, and each was made at one of the turns
  pub chosen : IsSearch s.chosen s.turns.items
  -- the remembered results are right for the candidates of the pool
  pub matches : AreMatchesAmong (pool_of s.chosen).candidates s.matches
  -- the known clauses are about this pool: in contracts, `Known` is seen as its pool
  pub known : s.known ≡ pool_of s.chosen

-- no satisfying selection has all members of the reason, which are choices
pub record IsDeadEnd (chosen : Choices) (reason : List ℕ) : Type 0 where
  pub within : AreAllMembersOf reason (choices_of chosen)
  pub dead : IsReason (pool_of chosen) reason

-- the option was just taken from the frame of the next need, and can join the choices
pub record CanJoin (chosen : Choices) (frame : FrameValue) (option : ℕ) : Type 0 where
  pub taken : IsFrameTaking (pool_of chosen) (choices_of chosen) frame option
  pub clean : AreCompatible (pool_of chosen) (choices_of chosen ++ option ∷ [])
