use Rattle.std.proofs.Common.{ap, arith, length, length-take, take, ◌∙◌, ◌++◌, ◌∷◌, [], List, ℕ}
use Rattle.std.proofs.lemmas.List.{length-map}
use Rattle.command_core.specs.declared.operands.Operand.{Operand}
use Rattle.change_inputs.proofs.WorldSteps.{texts_all, texts_more}
use Rattle.change_inputs.proofs.world.operand_texts.Goals as goal

pub push-requires : goal.push-requires
push-requires c =
    omega (arith, ap length c.loop-i.invariant, length-map (take c.loop-i.i c.args.operands.now) (λ (o : Operand). o.text), length-take c.loop-i.i c.args.operands.now, c.if-i-ge-MOST_TEXTS.false)

pub loop-i-preserved : goal.loop-i-preserved
loop-i-preserved c =
    c.in_ok-push.ensures.ok ∙ ap (λ (t : List ℕ). c.loop-i.texts ++ t ∷ []) c.as_bytes.ensures
    ∙ texts_more c.args.operands.now c.loop-i.i c.get.result.now c.loop-i.texts c.get.ensures c.loop-i.invariant

pub returns : goal.returns
returns c = texts_all c.args.operands.now c.loop-i.i c.loop-i.texts (omega (arith, c.loop-i-test.false, c.len-i-end.ensures)) c.loop-i.invariant
