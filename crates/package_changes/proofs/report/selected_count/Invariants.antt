-- The candidates that are left are still to be counted.
use Rattle.std.proofs.Common.{◌≡◌, ◌≤◌, ◌+◌, ℕ, List, length, drop}
use Rattle.solve_core.specs.candidate_core.Rank.{SelectionProblem}
use Rattle.package_changes.specs.Placed.{candidates_at}
use Rattle.package_changes.proofs.report.selected_count.Given as goal

pub record IsCountSoFar (pool : SelectionProblem) (trace : List ℕ) (i count : ℕ) : Type 0 where
  pub total : count + length (candidates_at pool (drop i trace)) ≡ length (candidates_at pool trace)
  pub small : count ≤ i

abbrev pub invariant-loop-i : goal.invariant-loop-i
invariant-loop-i l = IsCountSoFar l.pool l.trace l.i l.count
