-- `version` compares two versions, or checks texts for being versions. The rules are in
-- `docs/commands.md`, "`version --test VERSION VERSION`" and "`version --check TEXT..`"; versions are
-- defined in `docs/formats.md`, "Versions".
use Rattle.std.specs.Prelude.{ℕ, if◌then◌else◌, List, [], ◌∷◌, ◌++◌, codes, Option, Some, None}
use Rattle.std.specs.declared.cmp.Ordering.{Ordering}
use Rattle.std.specs.declared.cmp.Ordering.TheVariants.{Less, Equal, Greater}
use Rattle.base_core.specs.Files.{Files}
use Rattle.report_core.specs.declared.refusal.Refusal.{Refusal}
use Rattle.report_core.specs.declared.refusal.Refusal.TheVariants.{VersionBad}
use Rattle.version_core.specs.Order.{is_version, version_cmp}
use Rattle.command_core.specs.declared.command.Flags.{Flags}
use Rattle.command_core.specs.declared.operands.Operand.{Operand}
use Rattle.outcome.specs.Outcome.{Outcome, outcome_without_commit, just_report_unless_refusal}

-- the refusal of the first operand that is no version
abbrev pub version_refusal : List Operand → Option Refusal
version_refusal [] = None
version_refusal (o ∷ operands) =
    if is_version o.text then version_refusal operands else Some (VersionBad o.place)

-- the line with the order of two versions
abbrev pub order_line : Ordering → List ℕ
order_line Less = codes "<\n"
order_line Equal = codes "=\n"
order_line Greater = codes ">\n"

-- the report of `--test`: the order of the first two operands; the grammar gives exactly two
abbrev pub version_order_report : List Operand → List ℕ
version_order_report [] = []
version_order_report (a ∷ []) = []
version_order_report (a ∷ (b ∷ operands)) = order_line (version_cmp a.text b.text)

-- the line of a text, which is empty if the text is a version
abbrev pub line_if_invalid_version : List ℕ → List ℕ
line_if_invalid_version text = if is_version text then [] else text ++ codes "\n"

-- the report of `--check`: each operand that is no version, on a line of its own
abbrev pub invalid_version_lines : List Operand → List ℕ
invalid_version_lines [] = []
invalid_version_lines (o ∷ operands) = line_if_invalid_version o.text ++ invalid_version_lines operands

-- `--test` prints the order, unless one operand is no version. `--check` prints the operands that are
-- no versions, and refuses the first of them after that report.
abbrev pub version : Files → Flags → List Operand → Outcome
version files flags operands =
    if flags.test then just_report_unless_refusal files (version_refusal operands)
    (version_order_report operands) else
    outcome_without_commit (version_refusal operands) (invalid_version_lines operands) files
