use Rattle.std.proofs.Common.{◌-◌}
use Rattle.adb_dump.specs.Margin.{margin}
use Rattle.adb_dump.proofs.Puts.{IsSoFarForAny}
use Rattle.adb_dump.proofs.line.write_levels.Given as goal

abbrev pub invariant-loop-level : goal.invariant-loop-level
invariant-loop-level g l = IsSoFarForAny (g.O.Out.holds) l.initial.out l.out (margin (l.levels - l._level)) (margin l.levels)
