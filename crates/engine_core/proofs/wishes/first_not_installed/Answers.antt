use Rattle.std.proofs.Common.{arith, ap, ◌∙◌}
use Rattle.change_report.specs.db_core.Seen.{packages_of}
use Rattle.change_report.specs.package_changes.Report.{was_installed}
use Rattle.engine_core.proofs.Known.{all_known, known_here, unknown_here}
use Rattle.engine_core.proofs.wishes.first_not_installed.Goals as goal

pub returns-then-not-is_installed : goal.returns-then-not-is_installed
returns-then-not-is_installed c =
    let installed = was_installed (packages_of c.args.db.now) in
    unknown_here installed c.args.operands.now c.loop-i.i c.loop-i.invariant c.get-operand.result.now _ c.get-operand.ensures
    (c.is_installed.ensures ∙ ap installed c.as_bytes.ensures) c.if-not-is_installed.true

pub loop-i-preserved : goal.loop-i-preserved
loop-i-preserved c =
    let installed = was_installed (packages_of c.args.db.now) in
    known_here installed c.args.operands.now c.loop-i.i c.loop-i.invariant c.get-operand.result.now _ c.get-operand.ensures
    (c.is_installed.ensures ∙ ap installed c.as_bytes.ensures) c.if-not-is_installed.false

pub returns : goal.returns
returns c = all_known (was_installed (packages_of c.args.db.now)) c.args.operands.now c.loop-i.i c.loop-i.invariant (omega (arith, c.loop-i-test.false, c.len-i-end.ensures))
