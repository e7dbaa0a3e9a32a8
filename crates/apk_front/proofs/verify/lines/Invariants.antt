use Rattle.std.proofs.Common.{◌≡◌, ◌++◌, drop}
use Rattle.outcome.specs.Verify.{sound_lines}
use Rattle.apk_front.proofs.verify.lines.Given as goal

-- the lines so far, and those of the operands that are left
abbrev pub invariant-loop-i : goal.invariant-loop-i
invariant-loop-i l = l.report.items ++ sound_lines (drop l.i l.operands) ≡ sound_lines l.operands
