use Rattle.std.proofs.Common.{◌≡◌, ◌++◌, ℕ, List, length}
use Rattle.search_choices.specs.Choices.{pool_of}
use Rattle.search_choices.specs.search_tables.Reasons.{FrameValue}
use Rattle.solve_core.specs.Underway.{IsDeadEnd, IsUnderway}
use Rattle.solve_core.proofs.search.Search.step_back.Given as goal

abbrev pub invariant-loop-turn : goal.invariant-loop-turn
invariant-loop-turn l = record {
  pool : pool_of l.self.chosen ≡ pool_of l.initial.self.chosen;
  underway : IsUnderway l.self;
  front : (rest : List (FrameValue × ℕ)) × (l.initial.self.turns.items ≡ l.self.turns.items ++ rest);
  dead : IsDeadEnd l.self.chosen l.self.reason;
}

abbrev pub decreases-loop-turn : goal.decreases-loop-turn
decreases-loop-turn l = length l.self.turns.items
