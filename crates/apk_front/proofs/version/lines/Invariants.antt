use Rattle.std.proofs.Common.{◌≡◌, ◌++◌, drop}
use Rattle.outcome.specs.Version.{invalid_version_lines}
use Rattle.apk_front.proofs.version.lines.Given as goal

-- the lines so far, and those of the operands that are left
abbrev pub invariant-loop-i : goal.invariant-loop-i
invariant-loop-i l = l.report.items ++ invalid_version_lines (drop l.i l.operands) ≡ invalid_version_lines l.operands
