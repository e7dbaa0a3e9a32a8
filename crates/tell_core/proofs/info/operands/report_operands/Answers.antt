use Rattle.std.proofs.Common.{◌∙◌, ◌+◌, ◌++◌, [], drop, ap, sym}
use Rattle.std.specs.Prelude.{is_some}
use Rattle.std.specs.Option.{option_map_or}
use Rattle.command_core.specs.declared.operands.Operand.{Operand}
use Rattle.file_owners.specs.db_core.Seen.{packages_of}
use Rattle.tell_core.specs.Info.{info_unless_refused, operand_info, operands_info, package_info_for_operand_text}
use Rattle.tell_core.specs.InfoPackages.{package_meant_by_operand_text}
use Rattle.tell_core.proofs.LineSteps.{left_at, told}
use Rattle.tell_core.proofs.OperandSteps.{passed, refused}
use Rattle.tell_core.proofs.info.operands.report_operands.Goals as goal

pub returns-then-not-branch : goal.returns-then-not-branch
returns-then-not-branch c =
    let packages = packages_of c.args.db.now in
    let o : Operand = c.get-operand.result.now in
    ap (λ r. info_unless_refused r (operands_info c.args.form packages c.args.operands.now))
    (sym (refused c.args.form packages c.args.operands.now c.loop-i.i o c.get-operand.ensures _
    (c.in_ok-push_operand.ensures.found ∙ ap (λ t. is_some (package_meant_by_operand_text c.args.form packages t)) c.as_bytes.ensures) c.if-not-branch.true)
    ∙ c.loop-i.invariant.refusal)

pub loop-i-preserved : goal.loop-i-preserved
loop-i-preserved c =
    let packages = packages_of c.args.db.now in
    let o : Operand = c.get-operand.result.now in
    record {
      report = told _ _ (operand_info c.args.form packages o) _ (operands_info c.args.form packages (drop (c.loop-i.i + 1) c.args.operands.now)) _
          (c.in_ok-push_operand.ensures.told ∙ ap (λ t. c.loop-i.report.items ++ option_map_or (package_info_for_operand_text c.args.form t) (package_meant_by_operand_text c.args.form packages t) []) c.as_bytes.ensures)
          (ap (operands_info c.args.form packages) (left_at c.args.operands.now c.loop-i.i o c.get-operand.ensures)) c.loop-i.invariant.report;
      refusal = sym (passed c.args.form packages c.args.operands.now c.loop-i.i o c.get-operand.ensures _
          (c.in_ok-push_operand.ensures.found ∙ ap (λ t. is_some (package_meant_by_operand_text c.args.form packages t)) c.as_bytes.ensures) c.if-not-branch.false)
          ∙ c.loop-i.invariant.refusal;
    }
