use Rattle.std.proofs.Common.{◌≡◌, ◌≤◌, ◌<◌, ℕ, false, take}
use Rattle.search_needs.specs.candidate_core.Options.{IsIn}
use Rattle.search_choices.specs.Choices.{choices_of, install_ifs_of, pool_of}
use Rattle.search_needs.specs.TriggeredInstallIf.{is_install_if_triggered_at_rank}
use Rattle.search_choices.proofs.choices.Choices.least_rank_waiting.Given as goal

abbrev pub invariant-loop-rank : goal.invariant-loop-rank
invariant-loop-rank l = record {
  less : l.least ≤ l.cursor;
  unasked : (rank : ℕ) → IsIn rank (take l.rank-index l.rank-items) → rank < l.least → is_install_if_triggered_at_rank (pool_of l.self) (choices_of l.self) (install_ifs_of l.self) rank ≡ false;
}
