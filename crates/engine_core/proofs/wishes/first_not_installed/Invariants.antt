use Rattle.std.proofs.Common.{◌≡◌, drop}
use Rattle.change_report.specs.db_core.Seen.{packages_of}
use Rattle.change_report.specs.package_changes.Report.{was_installed}
use Rattle.engine_core.specs.Wishes.{place_of_first_unknown_operand}
use Rattle.engine_core.proofs.wishes.first_not_installed.Given as goal

-- all so far are installed: the rest decides
abbrev pub invariant-loop-i : goal.invariant-loop-i
invariant-loop-i l = place_of_first_unknown_operand (was_installed (packages_of l.db)) (drop l.i l.operands) ≡ place_of_first_unknown_operand (was_installed (packages_of l.db)) l.operands
