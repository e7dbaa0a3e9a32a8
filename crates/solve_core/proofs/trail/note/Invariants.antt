use Rattle.std.proofs.Common.{◌-◌, ◌+◌, vec_len}
use Rattle.solve_core.proofs.trail.note.Given as goal

abbrev pub decreases-loop-values : goal.decreases-loop-values
decreases-loop-values l = l.place + 1 - vec_len l.values
