use Rattle.std.proofs.Common.{◌-◌, ◌+◌, vec_len}
use Rattle.solve_core.proofs.watches.grow.Given as goal

abbrev pub decreases-loop-alloc : goal.decreases-loop-alloc
decreases-loop-alloc l = l.place + 1 - vec_len l.places
