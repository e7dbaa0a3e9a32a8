use Rattle.std.proofs.Common.{sym, ◌∙◌, ap}
use Rattle.command_core.specs.Operands.{takes}
use Rattle.command_core.proofs.Named.{refused_here, refused_more}
use Rattle.command_core.proofs.operands.OperandRule.place_of_first_refused_operand.Goals as goal

pub returns-then-not-takes : goal.returns-then-not-takes
returns-then-not-takes c =
    sym (c.loop-i.invariant ∙ refused_here c.args.self.now c.args.operands.now c.loop-i.i c.get-operand.result.now c.get-operand.ensures (sym (ap (takes c.args.self.now c.loop-i.i) c.as_bytes.ensures) ∙ (sym c.takes.ensures ∙ c.if-not-takes.true)))

pub loop-i-preserved : goal.loop-i-preserved
loop-i-preserved c =
    c.loop-i.invariant
    ∙ refused_more c.args.self.now c.args.operands.now c.loop-i.i c.get-operand.result.now c.get-operand.ensures (sym (ap (takes c.args.self.now c.loop-i.i) c.as_bytes.ensures) ∙ (sym c.takes.ensures ∙ c.if-not-takes.false))
