use Rattle.adb_copy.proofs.overlaps.common_divisor.Given as goal

abbrev pub decreases-loop-divisor : goal.decreases-loop-divisor
decreases-loop-divisor l = l.divisor
