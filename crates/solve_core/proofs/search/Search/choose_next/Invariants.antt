use Rattle.std.proofs.Common.{◌≡◌, ◌≤◌}
use Rattle.search_choices.specs.Choices.{choices_of, pool_of}
use Rattle.search_choices.specs.search_tables.Reasons.{IsFrameOf}
use Rattle.solve_core.specs.Measure.{search_measure}
use Rattle.solve_core.specs.Underway.{IsUnderway}
use Rattle.solve_core.proofs.search.Search.choose_next.Given as goal

abbrev pub invariant-loop-top : goal.invariant-loop-top
invariant-loop-top l = record {
  pool : pool_of l.self.chosen ≡ pool_of l.initial.self.chosen;
  underway : IsUnderway l.self;
  open_now : IsFrameOf (pool_of l.self.chosen) (choices_of l.self.chosen) l.top;
  lighter : search_measure l.self.turns.items l.top ≤ search_measure l.initial.self.turns.items l.initial.top;
}

abbrev pub decreases-loop-top : goal.decreases-loop-top
decreases-loop-top l = search_measure l.self.turns.items l.top
