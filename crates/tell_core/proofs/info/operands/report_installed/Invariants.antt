-- What is told of the operands that are left is still to be told; they decide unless one was
-- refused before.
use Rattle.std.proofs.Common.{◌≡◌, ℕ, List, ◌++◌, drop, Option}
use Rattle.std.specs.Option.{option_or}
use Rattle.adb_view.specs.Plain.{Plain}
use Rattle.command_core.specs.declared.operands.Operand.{Operand}
use Rattle.file_owners.specs.db_core.Seen.{packages_of}
use Rattle.report_core.specs.declared.refusal.Refusal.{Refusal}
use Rattle.tell_core.specs.Info.{info_refusal, operands_info}
use Rattle.tell_core.specs.declared.info.reporting.Form.{Form}
use Rattle.tell_core.proofs.info.operands.report_installed.Given as goal

pub record IsToldSoFar (form : Form) (packages : List Plain) (operands : List Operand) (i : ℕ) (bytes : List ℕ) (following_refusal : Option Refusal) : Type 0 where
  pub report : bytes ++ operands_info form packages (drop i operands) ≡ operands_info form packages operands
  pub refusal : option_or following_refusal (info_refusal form packages (drop i operands)) ≡ info_refusal form packages operands

abbrev pub invariant-loop-i : goal.invariant-loop-i
invariant-loop-i l = IsToldSoFar l.form (packages_of l.db) l.operands l.i l.report.items l.following_refusal
