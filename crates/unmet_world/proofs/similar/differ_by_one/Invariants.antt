-- The bytes so far are alike.
use Rattle.std.proofs.Common.{◌≡◌, drop}
use Rattle.unmet_world.specs.Similar.{differ_by_one}
use Rattle.unmet_world.proofs.similar.differ_by_one.Given as goal

abbrev pub invariant-loop-i : goal.invariant-loop-i
invariant-loop-i l = differ_by_one l.text l.other ≡ differ_by_one (drop l.i l.text) (drop l.i l.other)
