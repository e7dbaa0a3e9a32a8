use Rattle.std.proofs.Common.{arith, ap, ◌∙◌}
use Rattle.change_report.specs.change_inputs.Seen.{inputs_seen}
use Rattle.engine_core.specs.Wishes.{is_name_in_world_or_installed}
use Rattle.engine_core.proofs.Known.{all_known, known_here, unknown_here}
use Rattle.engine_core.proofs.wishes.place_of_first_unknown_operand.Goals as goal

pub returns-then-not-is_known : goal.returns-then-not-is_known
returns-then-not-is_known c =
    let inputs = inputs_seen c.args.loaded.now in
    unknown_here (is_name_in_world_or_installed inputs) c.args.operands.now c.loop-i.i c.loop-i.invariant c.get-operand.result.now _ c.get-operand.ensures
    (c.is_known.ensures ∙ ap (is_name_in_world_or_installed inputs) c.as_bytes.ensures) c.if-not-is_known.true

pub loop-i-preserved : goal.loop-i-preserved
loop-i-preserved c =
    let inputs = inputs_seen c.args.loaded.now in
    known_here (is_name_in_world_or_installed inputs) c.args.operands.now c.loop-i.i c.loop-i.invariant c.get-operand.result.now _ c.get-operand.ensures
    (c.is_known.ensures ∙ ap (is_name_in_world_or_installed inputs) c.as_bytes.ensures) c.if-not-is_known.false

pub returns : goal.returns
returns c = all_known (is_name_in_world_or_installed (inputs_seen c.args.loaded.now)) c.args.operands.now c.loop-i.i c.loop-i.invariant (omega (arith, c.loop-i-test.false, c.len-i-end.ensures))
