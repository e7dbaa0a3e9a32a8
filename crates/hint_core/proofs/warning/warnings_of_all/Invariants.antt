use Rattle.std.proofs.Common.{◌≡◌, ◌++◌, drop}
use Rattle.hint_core.specs.Warnings.{tag_warnings}
use Rattle.hint_core.proofs.warning.warnings_of_all.Given as goal

-- the warnings so far, and those of the operands that are left
abbrev pub invariant-loop-i : goal.invariant-loop-i
invariant-loop-i l =
    l.lines.items ++ tag_warnings l.repos (drop l.i l.operands) ≡ tag_warnings l.repos l.operands
