use Rattle.std.proofs.Common.{◌≡◌}
use Rattle.solve_core.proofs.propagation.Propagation.derive_all.Given as goal

abbrev pub invariant-loop-index : goal.invariant-loop-index
invariant-loop-index l = l.known ≡ l.initial.known
