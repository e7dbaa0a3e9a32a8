use Rattle.std.proofs.Common.{◌≡◌, ◌-◌, suc, List, ℕ, drop, subst, arith}
use Rattle.unmet_world.specs.declared.refutation.Step.{Step}
use Rattle.unmet_world.proofs.Steps.{AreGathered, gathered_from, if_true, none_gathered, refuted}
use Rattle.unmet_world.proofs.refutation.is_refutation.Goals as goal

pub loop-left-init : goal.loop-left-init
loop-left-init c = record {
  within = omega arith;
  gathered = none_gathered c.args.pool.now c.args.refutation.now.steps.items c.len-left.result _ _ (omega arith) c.new.ensures c.new-2.ensures;
}

pub loop-left-preserved : goal.loop-left-preserved
loop-left-preserved c =
    let steps : List Step = c.args.refutation.now.steps.items in
    let before : c.loop-left.left ≡ suc (c.loop-left.left - 1) = omega arith in
    record {
      within = omega arith;
      gathered = gathered_from c.args.pool.now steps (c.loop-left.left - 1) c.step_at-step.result c.loop-left.checked.out c.loop-left.checked.sure _ _ c.step_at-step.ensures
          (subst (λ (n : ℕ). AreGathered c.args.pool.now (drop n steps) c.loop-left.checked.out c.loop-left.checked.sure) before c.loop-left.invariant.gathered)
          (c.in_ok-follows.ensures c.if-not-branch.false) c.in_ok-add.ensures.out c.in_ok-add.ensures.sure;
    }

pub returns : goal.returns
returns c =
    if_true c.is_met_only_by.result (λ only. refuted c.args.pool.now c.args.refutation.now c.loop-left.left c.loop-left.checked.out c.loop-left.checked.sure (omega arith) c.loop-left.invariant.gathered (c.is_sure.ensures c.if-not-is_sure.false) only) c.is_met_only_by.ensures
