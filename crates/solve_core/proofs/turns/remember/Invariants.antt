use Rattle.std.proofs.Common.{◌-◌, ◌+◌, vec_len}
use Rattle.solve_core.proofs.turns.remember.Given as goal

abbrev pub decreases-loop-hints : goal.decreases-loop-hints
decreases-loop-hints l = l.place + 1 - vec_len l.hints
