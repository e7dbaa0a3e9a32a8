use Rattle.std.proofs.Common.{◌≡◌, ◌+◌, Err, ap, refl, ◌∙◌, arith}
use Rattle.base_core.proofs.Counting.{goes_on_same, goes_on_twice, no_fault_same, no_fault_twice}
use Rattle.journal_commit.specs.journal_core.Staged.{Staging}
use Rattle.journal_staging.proofs.Counted.{err_counts, ok_counts}
use Rattle.journal_staging.proofs.Each.{all_listed, all_staged, each_good, each_more, each_proper, item_at, listed_next, listed_run, none_listed, none_staged}
use Rattle.journal_staging.proofs.OneFile.{same_fault, if_disk, not_ok}
use Rattle.journal_staging.proofs.carrying.stage_each.Goals as goal

pub returns-in_err-stage_write-clause-run : goal.returns-in_err-stage_write-clause-run
returns-in_err-stage_write-clause-run g c =
    listed_run _ _ _ _ _ _ _ c.loop-write.invariant.listed c.in_err-stage_write.ensures.source.run

pub returns-in_err-stage_write-clause-good : goal.returns-in_err-stage_write-clause-good
returns-in_err-stage_write-clause-good g c = λ contents v first staging stand.
    if_disk c.from_residual.result c.in_err-stage_write.field-0.0 c.from_residual.ensures.1
    (each_good c.args.stage.now c.loop-write.stage c.stage_write.new.stage c.args.writes.now c.loop-write.write-index c.write-item.result (item_at c.args.writes.now c.loop-write.write-index c.write-item.result (omega arith) c.write-item.is)
    (g.T.Tree.history c.args.tree.now) (g.T.Tree.history c.loop-write.tree) (g.T.Tree.history c.stage_write.new.tree) c.loop-write.invariant.staged _ c.in_err-stage_write.ensures.source.good contents v first staging stand)

pub returns-in_err-stage_write-clause-bad : goal.returns-in_err-stage_write-clause-bad
returns-in_err-stage_write-clause-bad g c = λ member cause is. record {
  number = c.loop-write.write-index;
  write = c.write-item.result;
  at = item_at c.args.writes.now c.loop-write.write-index c.write-item.result (omega arith) c.write-item.is;
  is = c.in_err-stage_write.ensures.bad member cause (ap Err (same_fault c.from_residual.result c.in_err-stage_write.field-0.0 _ c.from_residual.ensures.1 is));
}

pub returns-in_err-stage_write-clause-proper : goal.returns-in_err-stage_write-clause-proper
returns-in_err-stage_write-clause-proper g c =
    each_proper c.args.stage.now c.loop-write.stage c.stage_write.new.stage c.args.writes.now c.loop-write.write-index c.write-item.result (item_at c.args.writes.now c.loop-write.write-index c.write-item.result (omega arith) c.write-item.is)
    (g.T.Tree.history c.args.tree.now) (g.T.Tree.history c.loop-write.tree) (g.T.Tree.history c.stage_write.new.tree) c.loop-write.invariant.staged _ _ _ c.loop-write.invariant.proper c.in_err-stage_write.ensures.source.proper

pub loop-write-preserved : goal.loop-write-preserved
loop-write-preserved g c = record {
  view = c.in_ok-stage_write.ensures.source.view ∙ ap (λ (s : Staging). record s { staged = s.staged + 1 }) c.loop-write.invariant.view;
  staged =
      each_more c.args.stage.now c.loop-write.stage c.stage_write.new.stage c.args.writes.now c.loop-write.write-index c.write-item.result (item_at c.args.writes.now c.loop-write.write-index c.write-item.result (omega arith) c.write-item.is)
      (g.T.Tree.history c.args.tree.now) (g.T.Tree.history c.loop-write.tree) (g.T.Tree.history c.stage_write.new.tree) c.loop-write.invariant.staged c.in_ok-stage_write.ensures.source.staging;
  listed =
      listed_next c.args.stage.now c.loop-write.stage c.stage_write.new.stage c.args.writes.now c.loop-write.write-index c.write-item.result
      (g.T.Tree.history c.args.tree.now) (g.T.Tree.history c.loop-write.tree) (g.T.Tree.history c.stage_write.new.tree) (item_at c.args.writes.now c.loop-write.write-index c.write-item.result (omega arith) c.write-item.is)
      c.loop-write.invariant.listed c.in_ok-stage_write.ensures.listed;
  goes_on = goes_on_twice _ _ _ c.loop-write.invariant.goes_on c.in_ok-stage_write.ensures.source.counts.goes_on;
  kept = no_fault_twice _ _ _ c.loop-write.invariant.kept c.in_ok-stage_write.ensures.source.counts.kept;
  proper =
      each_proper c.args.stage.now c.loop-write.stage c.stage_write.new.stage c.args.writes.now c.loop-write.write-index c.write-item.result (item_at c.args.writes.now c.loop-write.write-index c.write-item.result (omega arith) c.write-item.is)
      (g.T.Tree.history c.args.tree.now) (g.T.Tree.history c.loop-write.tree) (g.T.Tree.history c.stage_write.new.tree) c.loop-write.invariant.staged _ _ _ c.loop-write.invariant.proper c.in_ok-stage_write.ensures.source.proper;
}

pub returns-clause-run : goal.returns-clause-run
returns-clause-run g c = λ v first staging.
    (all_listed c.args.stage.now c.loop-write.stage c.args.writes.now c.loop-write.write-index (g.T.Tree.history c.args.tree.now) (g.T.Tree.history c.loop-write.tree) (omega arith) c.loop-write.invariant.listed v first staging).2.run

pub returns-clause-staging : goal.returns-clause-staging
returns-clause-staging g c =
    all_staged c.args.stage.now c.loop-write.stage c.args.writes.now c.loop-write.write-index (g.T.Tree.history c.args.tree.now) (g.T.Tree.history c.loop-write.tree) (omega arith) c.loop-write.invariant.staged

pub returns-clause-listed : goal.returns-clause-listed
returns-clause-listed g c =
    all_listed c.args.stage.now c.loop-write.stage c.args.writes.now c.loop-write.write-index (g.T.Tree.history c.args.tree.now) (g.T.Tree.history c.loop-write.tree) (omega arith) c.loop-write.invariant.listed

pub loop-write-init : goal.loop-write-init
loop-write-init g c = record {
  view = ap (λ n. record c.args.stage.now { staged = n }) c.requires.none;
  staged = none_staged _ _ _;
  listed = none_listed _ c.args.writes.now _;
  goes_on = goes_on_same _;
  kept = no_fault_same _;
  proper = λ contents v first staging stand room. refl;
}

pub returns-in_err-stage_write-clause-staging : goal.returns-in_err-stage_write-clause-staging
returns-in_err-stage_write-clause-staging g c = λ contents v first staging stand. not_ok (λ e. e ≡ c.in_err-stage_write.field-0.0) c.from_residual.result _ c.from_residual.ensures.1

pub returns-in_err-stage_write-clause-listed : goal.returns-in_err-stage_write-clause-listed
returns-in_err-stage_write-clause-listed g c = λ v first staging. not_ok (λ e. e ≡ c.in_err-stage_write.field-0.0) c.from_residual.result _ c.from_residual.ensures.1

pub returns-in_err-stage_write-clause-view : goal.returns-in_err-stage_write-clause-view
returns-in_err-stage_write-clause-view g c = not_ok (λ e. e ≡ c.in_err-stage_write.field-0.0) c.from_residual.result _ c.from_residual.ensures.1

pub returns-in_err-stage_write-clause-counts : goal.returns-in_err-stage_write-clause-counts
returns-in_err-stage_write-clause-counts g c =
    err_counts _ _ _ _ c.from_residual.result _ c.from_residual.ensures.1 c.loop-write.invariant.goes_on c.loop-write.invariant.kept c.in_err-stage_write.ensures.source.counts.goes_on
    (λ off. c.in_err-stage_write.ensures.source.counts.disk (ap Err off)) c.in_err-stage_write.ensures.source.counts.others

pub returns-clause-good : goal.returns-clause-good
returns-clause-good g c = λ contents v first staging stand. tt

pub returns-clause-bad : goal.returns-clause-bad
returns-clause-bad g c = λ member cause is. cc (is)

pub returns-clause-counts : goal.returns-clause-counts
returns-clause-counts g c = ok_counts _ _ _ tt c.loop-write.invariant.goes_on c.loop-write.invariant.kept

pub returns-clause-proper : goal.returns-clause-proper
returns-clause-proper g c = c.loop-write.invariant.proper
