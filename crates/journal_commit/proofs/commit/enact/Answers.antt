use Rattle.journal_core.proofs.OldOrNew.{bytes_end}
use Rattle.journal_core.proofs.Leaving.{end_lasts}
use Rattle.journal_core.proofs.Rowing.{reads_called}
use Rattle.journal_commit.proofs.Ends.{end_files, end_moments, end_proper, end_settled}
use Rattle.journal_commit.proofs.commit.enact.Goals as goal

pub returns-clause-actions : goal.returns-clause-actions
returns-clause-actions g c = record {
  moments = end_moments _ _ _ _ _ c.in_ok-apply_all.ensures.acting c.apply_all.ensures.actions.moments c.finish.ensures.moments;
  reads = reads_called _ _ _ _ _ c.in_ok-apply_all.ensures.acting c.apply_all.ensures.actions.reads c.finish.ensures.reads;
  bytes = bytes_end _ _ _ _ c.apply_all.ensures.actions.bytes c.finish.ensures.shown;
}

pub returns-clause-last : goal.returns-clause-last
returns-clause-last g c = end_lasts _ _ _ c.apply_all.ensures.waiting c.finish.ensures.last

pub returns-clause-settled : goal.returns-clause-settled
returns-clause-settled g c = end_settled _ _ _ _ _ c.in_ok-apply_all.ensures.acting c.apply_all.ensures.actions.moments c.finish.result c.finish.ensures.settled

pub returns-clause-files : goal.returns-clause-files
returns-clause-files g c = end_files _ _ _ _ _ c.in_ok-apply_all.ensures.acting c.finish.result c.finish.ensures.files

pub returns-clause-proper : goal.returns-clause-proper
returns-clause-proper g c = end_proper _ _ _ _ (g.T.Tree.history c.args.tree.now) c.in_ok-apply_all.ensures.acting _ _ _ c.in_ok-apply_all.ensures.proper c.finish.ensures.proper
