use Rattle.std.proofs.Common.{◌-◌}
use Rattle.engine_core.proofs.Known.{IsNarrowed}
use Rattle.engine_core.proofs.wishes.is_in_world.Given as goal

-- the name can only be between the two bounds
abbrev pub invariant-halves : goal.invariant-halves
invariant-halves l = IsNarrowed l.name l.world l.low l.high

abbrev pub decreases-halves : goal.decreases-halves
decreases-halves l = l.high - l.low
