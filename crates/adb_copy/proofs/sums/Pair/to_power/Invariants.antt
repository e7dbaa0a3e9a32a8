use Rattle.adb_copy.proofs.sums.Pair.to_power.Given as goal

abbrev pub decreases-loop-rest : goal.decreases-loop-rest
decreases-loop-rest l = l.rest
