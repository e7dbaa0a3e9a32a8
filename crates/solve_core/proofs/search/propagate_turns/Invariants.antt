use Rattle.std.proofs.Common.{◌≡◌}
use Rattle.solve_core.proofs.search.propagate_turns.Given as goal

abbrev pub invariant-loop-i : goal.invariant-loop-i
invariant-loop-i l = l.known ≡ l.initial.known
