-- The packages that are left are still to be summed.
use Rattle.std.proofs.Common.{◌≡◌, ◌≤◌, ◌+◌, ◌*◌, ℕ, List, drop}
use Rattle.std.specs.Prelude.{fold, sum_by}
use Rattle.change_outcome.specs.db_core.Members.{Member}
use Rattle.change_outcome.specs.db_core.Seen.{members_of}
use Rattle.change_outcome.specs.ChangeOutcome.{member_installed_size}
use Rattle.change_report.proofs.reporting.installed_bytes.Given as goal

pub record IsSumSoFar (members : List Member) (i sum : ℕ) : Type 0 where
  pub total : fold (λ a m. a + member_installed_size m) sum (drop i members) ≡ sum_by member_installed_size members
  pub small : sum ≤ i * 18446744073709551615

abbrev pub invariant-loop-i : goal.invariant-loop-i
invariant-loop-i l = IsSumSoFar (members_of l.members) l.i l.sum
