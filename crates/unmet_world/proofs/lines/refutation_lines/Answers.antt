use Rattle.std.proofs.Common.{◌∙◌, ◌≤◌, List, ℕ, length, take, ap, arith}
use Rattle.std.proofs.lemmas.List.{take_all, take_more}
use Rattle.unmet_world.specs.Lines.{most_printed_lines, step_lines, want_lines}
use Rattle.unmet_world.specs.declared.refutation.Step.{Step}
use Rattle.unmet_world.proofs.AddedTexts.{texts_of_all, texts_step}
use Rattle.unmet_world.proofs.lines.refutation_lines.Goals as goal

pub loop-step-preserved : goal.loop-step-preserved
loop-step-preserved c =
    texts_step (step_lines c.args.sources.now.pool.now c.args.sources.now.listed.now c.args.sources.now.repositories.now) _ _ _ _ _ _ (take_more c.first_of-steps.result.now c.loop-step.step-index _ (omega arith)) c.loop-step.invariant c.in_ok-add_step.ensures

pub returns : goal.returns
returns c =
    let steps : List Step = c.first_of-steps.result.now in
    let want : List (List ℕ) = want_lines c.args.sources.now.pool.now c.args.sources.now.listed.now c.args.sources.now.repositories.now c.args.refutation.now.end in
    let past : length steps ≤ c.loop-step.step-index = omega arith in
    texts_of_all (step_lines c.args.sources.now.pool.now c.args.sources.now.listed.now c.args.sources.now.repositories.now) _ _ _ want _ _ c.loop-step.invariant
    (take_all c.loop-step.step-index steps past ∙ (c.first_of-steps.ensures ∙ ap (take most_printed_lines) c.deref.ensures.value)) c.in_ok-add_want.ensures c.new-lines.ensures.items
