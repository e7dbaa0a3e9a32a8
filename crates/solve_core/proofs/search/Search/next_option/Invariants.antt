use Rattle.std.proofs.Common.{◌≡◌, ◌≤◌, length}
use Rattle.search_choices.specs.Choices.{choices_of, pool_of}
use Rattle.search_choices.specs.search_tables.Reasons.{IsFrameOf}
use Rattle.solve_core.specs.Underway.{IsUnderway}
use Rattle.solve_core.proofs.search.Search.next_option.Given as goal

abbrev pub invariant-loop-id : goal.invariant-loop-id
invariant-loop-id l = record {
  underway : IsUnderway l.self;
  chosen : l.self.chosen ≡ l.initial.self.chosen;
  turns : l.self.turns.items ≡ l.initial.self.turns.items;
  open_now : IsFrameOf (pool_of l.self.chosen) (choices_of l.self.chosen) l.top;
  fewer : length l.top.1 ≤ length l.initial.top.1;
}

abbrev pub decreases-loop-id : goal.decreases-loop-id
decreases-loop-id l = length l.top.1
