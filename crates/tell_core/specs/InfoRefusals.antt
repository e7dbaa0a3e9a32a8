-- The refusals of `info`. Serves the law `info_refuses_only_for_an_operand`. The rule is in `docs/commands.md`,
-- "`info`", part "What is refused".
use Rattle.std.specs.Prelude.{◌≡◌, List}
use Rattle.candidate_core.specs.adb_fields.FirstPair.{IsIn}
use Rattle.command_core.specs.declared.operands.Operand.{Operand}
use Rattle.report_core.specs.declared.refusal.Refusal.{Refusal}
use Rattle.report_core.specs.declared.refusal.Refusal.TheVariants.{NotInstalled}

-- the refusal says that the package of one of these operands is not installed
abbrev pub IsNotInstalledRefusalOfOperand : List Operand → Refusal → Type 0
IsNotInstalledRefusalOfOperand operands refusal =
    (o : Operand) × IsIn o operands × (refusal ≡ NotInstalled o.place)
