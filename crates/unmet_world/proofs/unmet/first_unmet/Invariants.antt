-- No entry so far is unmet.
use Rattle.std.proofs.Common.{ℕ, ◌<◌}
use Rattle.unmet_world.specs.Refutation.{IsUnmet, want_of_world_entry}
use Rattle.unmet_world.proofs.unmet.first_unmet.Given as goal

abbrev pub invariant-loop-index : goal.invariant-loop-index
invariant-loop-index l = (before : ℕ) → before < l.index → IsUnmet l.pool (want_of_world_entry before) → ⊥
