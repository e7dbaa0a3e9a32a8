use Rattle.std.proofs.Common.{◌≡◌, ◌≤◌, ◌<◌, ℕ, false, take}
use Rattle.dep_core.specs.Dependency.{Dependency}
use Rattle.search_needs.specs.candidate_core.Options.{IsIn}
use Rattle.search_choices.specs.Choices.{choices_of, install_ifs_of, pool_of}
use Rattle.search_needs.specs.TriggeredInstallIf.{is_install_if_triggered_at_rank}
use Rattle.search_needs.specs.search_tables.NameTable.{items_under_name}
use Rattle.search_choices.proofs.choices.Choices.least_rank_provided.Given as goal

abbrev pub invariant-loop-i : goal.invariant-loop-i
invariant-loop-i l = record {
  less : l.least ≤ l.cursor;
  unasked : (d : Dependency) → IsIn d (take l.i l.provides) → (rank : ℕ) → IsIn rank (items_under_name l.self.install_ifs.waiting d.name) → rank < l.least → is_install_if_triggered_at_rank (pool_of l.self) (choices_of l.self) (install_ifs_of l.self) rank ≡ false;
}
