use Rattle.std.proofs.Common.{◌∙◌, ◌+◌, ◌++◌, [], drop, ap}
use Rattle.std.specs.Prelude.{is_some}
use Rattle.std.specs.Option.{option_map_or}
use Rattle.command_core.specs.declared.operands.Operand.{Operand}
use Rattle.file_owners.specs.db_core.Seen.{packages_of}
use Rattle.report_core.specs.declared.refusal.Refusal.TheVariants.{NotInstalled}
use Rattle.tell_core.specs.Info.{info_refusal, operand_info, operands_info, package_info_for_operand_text}
use Rattle.tell_core.specs.InfoPackages.{package_meant_by_operand_text}
use Rattle.tell_core.proofs.LineSteps.{left_at, told}
use Rattle.tell_core.proofs.OperandSteps.{refusal_here, refused_after}
use Rattle.tell_core.proofs.info.operands.report_installed.Goals as goal

pub loop-i-preserved : goal.loop-i-preserved
loop-i-preserved c =
    let packages = packages_of c.args.db.now in
    let o : Operand = c.get-operand.result.now in
    record {
      report = told _ _ (operand_info c.args.form packages o) _ (operands_info c.args.form packages (drop (c.loop-i.i + 1) c.args.operands.now)) _
          (c.in_ok-is_told.ensures.told ∙ ap (λ t. c.loop-i.report.items ++ option_map_or (package_info_for_operand_text c.args.form t) (package_meant_by_operand_text c.args.form packages t) []) c.as_bytes.ensures)
          (ap (operands_info c.args.form packages) (left_at c.args.operands.now c.loop-i.i o c.get-operand.ensures)) c.loop-i.invariant.report;
      refusal = refused_after c.loop-i.following_refusal c.refusal_after-following_refusal.result c.in_ok-is_told.is_told (NotInstalled o.place) _ (info_refusal c.args.form packages (drop (c.loop-i.i + 1) c.args.operands.now)) _
          c.refusal_after-following_refusal.ensures
          (refusal_here c.args.form packages c.args.operands.now c.loop-i.i o c.get-operand.ensures c.in_ok-is_told.is_told
          (c.in_ok-is_told.ensures.found ∙ ap (λ t. is_some (package_meant_by_operand_text c.args.form packages t)) c.as_bytes.ensures))
          c.loop-i.invariant.refusal;
    }
