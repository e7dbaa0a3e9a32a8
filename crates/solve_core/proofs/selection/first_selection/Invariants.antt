use Rattle.std.proofs.Common.{◌≡◌}
use Rattle.std.specs.Prelude.{MatchOption, None}
use Rattle.search_choices.specs.Choices.{choices_of, pool_of}
use Rattle.search_choices.specs.search_tables.Reasons.{IsFrameOf}
use Rattle.search_choices.specs.search_tables.Selection.{next_need}
use Rattle.solve_core.specs.Measure.{next_measure}
use Rattle.solve_core.specs.Underway.{IsUnderway}
use Rattle.solve_core.proofs.selection.first_selection.Given as goal

abbrev pub invariant-loop-next : goal.invariant-loop-next
invariant-loop-next l = record {
  pool : pool_of l.search.chosen ≡ pool_of l.fn.search.chosen;
  underway : IsUnderway l.search;
  frame : MatchOption l.next (next_need (pool_of l.search.chosen) (choices_of l.search.chosen) ≡ None) (λ f. IsFrameOf (pool_of l.search.chosen) (choices_of l.search.chosen) f);
}

abbrev pub decreases-loop-next : goal.decreases-loop-next
decreases-loop-next l = next_measure l.search.turns.items l.next
