use Rattle.std.proofs.Common.{◌++◌, ℕ, List, ap, arith}
use Rattle.hint_core.specs.Warnings.{tag_warnings}
use Rattle.hint_core.proofs.ReadSteps.{no_value}
use Rattle.hint_core.proofs.WarningSteps.{warning_more, warnings_end}
use Rattle.hint_core.proofs.warning.warnings_of_all.Goals as goal

pub loop-i-init : goal.loop-i-init
loop-i-init c = ap (λ (l : List ℕ). l ++ tag_warnings c.args.repos.now c.args.operands.now) c.new-lines.ensures.items

pub returns-in_err-push_warning : goal.returns-in_err-push_warning
returns-in_err-push_warning c = no_value _ _ c.from_residual.result c.from_residual.ensures.1

pub loop-i-preserved : goal.loop-i-preserved
loop-i-preserved c = warning_more c.args.repos.now c.args.operands.now c.loop-i.i c.get.result.now _ _ _ c.get.ensures c.as_bytes.ensures c.in_ok-push_warning.ensures c.loop-i.invariant

pub returns : goal.returns
returns c = warnings_end c.args.repos.now c.args.operands.now c.loop-i.i _ (omega arith) c.loop-i.invariant
