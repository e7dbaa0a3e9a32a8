use Rattle.std.proofs.Common.{◌∙◌, None, ap, length, slice_get, sym}
use Rattle.journal_core.specs.Staged.{Staging}
use Rattle.journal_core.proofs.Asked.{all_accepted, none_yet, one_more_accepted, reads_with_error, reads_with_value}
use Rattle.journal_core.proofs.Counted.{if_failed}
use Rattle.journal_core.proofs.targets.check_removals.Goals as goal

pub loop-i-init : goal.loop-i-init
loop-i-init g c = record { reads = c.consecutive_reads_compose.ensures.none (record {}) _ _ 0; accepted = λ j name h is. absurd (none_yet j h) }

pub loop-i-preserved : goal.loop-i-preserved
loop-i-preserved g c = record {
  reads = reads_with_value _ _ _ _ _ _ 0 (c.consecutive_reads_compose.ensures.two (record {}) _ _ _ _ _ _ 0 _ c.loop-i.invariant.reads c.in_ok-check_target.ensures.tree);
  accepted = one_more_accepted (λ j name. g.T.Tree.accepts None name) c.args.stage.now.intent.removals c.loop-i.i c.removal.result.now (ap (λ (s : Staging). slice_get s.intent.removals c.loop-i.i) (sym c.stage.view_is) ∙ c.removal.ensures) (c.in_ok-check_target.ensures.accepted) c.loop-i.invariant.accepted;
}

pub returns-in_err-check_target-clause-tree : goal.returns-in_err-check_target-clause-tree
returns-in_err-check_target-clause-tree g c = reads_with_error _ _ _ _ _ _ c.from_residual.result c.from_residual.ensures.1 (c.consecutive_reads_compose.ensures.two (record {}) _ _ _ _ _ _ 0 _ c.loop-i.invariant.reads c.in_err-check_target.ensures.tree)

pub returns-in_err-check_target-clause-accepted : goal.returns-in_err-check_target-clause-accepted
returns-in_err-check_target-clause-accepted g c = if_failed c.from_residual.result _ _ c.from_residual.ensures.1

pub returns-clause-tree : goal.returns-clause-tree
returns-clause-tree g c = reads_with_value _ _ _ _ _ _ _ c.loop-i.invariant.reads

pub returns-clause-accepted : goal.returns-clause-accepted
returns-clause-accepted g c = all_accepted (λ j name. g.T.Tree.accepts None name) c.args.stage.now.intent.removals c.removals_len-i-end.result c.loop-i.i (c.removals_len-i-end.ensures ∙ ap (λ (s : Staging). length s.intent.removals) c.stage.view_is) c.loop-i-test.false c.loop-i.invariant.accepted
