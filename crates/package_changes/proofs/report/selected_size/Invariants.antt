-- The candidates that are left are still to be summed.
use Rattle.std.proofs.Common.{◌≡◌, ◌≤◌, ◌+◌, ◌*◌, ℕ, List, drop}
use Rattle.std.specs.Prelude.{fold, sum_by}
use Rattle.solve_core.specs.candidate_core.Rank.{SelectionProblem}
use Rattle.package_changes.specs.Placed.{candidates_at}
use Rattle.package_changes.specs.Report.{candidate_installed_size}
use Rattle.package_changes.proofs.report.selected_size.Given as goal

pub record IsSumSoFar (pool : SelectionProblem) (trace : List ℕ) (i sum : ℕ) : Type 0 where
  pub total : fold (λ a c. a + candidate_installed_size c) sum (candidates_at pool (drop i trace)) ≡ sum_by candidate_installed_size (candidates_at pool trace)
  pub small : sum ≤ i * 18446744073709551615

abbrev pub invariant-loop-i : goal.invariant-loop-i
invariant-loop-i l = IsSumSoFar l.pool l.trace l.i l.sum
