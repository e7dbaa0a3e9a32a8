use Rattle.journal_core.proofs.OldOrNew.{all_bytes, replay_bytes}
use Rattle.journal_core.proofs.Leaving.{all_lasts, waiting_on}
use Rattle.std.proofs.Common.{rules}
use Rattle.journal_core.proofs.Cleaned.{all_moments, all_reads, replay_reads}
use Rattle.journal_recovery.proofs.Recovered.{counts_later, gone_off, gone_on, idle_off, idle_on, proper_on, recovered, recovered_off, refusal_on, settled_off, settled_on}
use Rattle.journal_recovery.proofs.recovering.recover.Goals as goal

pub returns-in_err-replay-clause-moments : goal.returns-in_err-replay-clause-moments
returns-in_err-replay-clause-moments g c = c.replay.ensures.intent.moments

pub returns-in_err-replay-clause-reads : goal.returns-in_err-replay-clause-reads
returns-in_err-replay-clause-reads g c = replay_reads _ _ (g.T.Tree.history c.args.tree.now) c.replay.ensures.intent.reads

pub returns-in_err-replay-clause-bytes : goal.returns-in_err-replay-clause-bytes
returns-in_err-replay-clause-bytes g c = replay_bytes _ _ c.replay.ensures.intent.bytes

pub returns-in_err-replay-clause-files : goal.returns-in_err-replay-clause-files
returns-in_err-replay-clause-files g c = recovered_off _ _ _ (search rules)

pub returns-in_err-replay-clause-settled : goal.returns-in_err-replay-clause-settled
returns-in_err-replay-clause-settled g c = settled_off _ _ _ (search rules)

pub returns-in_err-replay-clause-journal : goal.returns-in_err-replay-clause-journal
returns-in_err-replay-clause-journal g c = c.replay.ensures.intent.journal

pub returns-in_err-replay-clause-gone : goal.returns-in_err-replay-clause-gone
returns-in_err-replay-clause-gone g c = gone_off _ _ _ (search rules)

pub returns-in_err-replay-clause-idle : goal.returns-in_err-replay-clause-idle
returns-in_err-replay-clause-idle g c = idle_off _ _ c.replay.ensures.intent.idle

pub returns-in_err-replay-clause-refusal : goal.returns-in_err-replay-clause-refusal
returns-in_err-replay-clause-refusal g c = record {
  bad = λ cause e. c.in_err-replay.ensures.intent.refusal.bad cause (search rules);
  good = search rules;
  bad_idle = c.replay.ensures.intent.refusal.bad_idle;
  found = λ cause e. c.in_err-replay.ensures.intent.refusal.found cause (search rules);
}

pub returns-in_err-replay-clause-proper : goal.returns-in_err-replay-clause-proper
returns-in_err-replay-clause-proper g c = c.replay.ensures.proper

pub returns-clause-moments : goal.returns-clause-moments
returns-clause-moments g c = all_moments _ _ _ c.replay.ensures.intent.moments c.in_ok-replay.ensures.intent.replayed c.empty_stage.ensures.stage.moments

pub returns-clause-reads : goal.returns-clause-reads
returns-clause-reads g c = all_reads _ _ _ c.replay.ensures.intent.reads c.in_ok-replay.ensures.intent.replayed c.empty_stage.ensures.stage.shown

pub returns-clause-bytes : goal.returns-clause-bytes
returns-clause-bytes g c = all_bytes _ _ _ c.replay.ensures.intent.bytes c.empty_stage.ensures.stage.shown

pub returns-clause-files : goal.returns-clause-files
returns-clause-files g c = recovered _ _ _ _ c.in_ok-replay.ensures.intent c.empty_stage.result c.empty_stage.ensures.stage

pub returns-clause-settled : goal.returns-clause-settled
returns-clause-settled g c = settled_on _ _ _ _ c.in_ok-replay.ensures.intent c.empty_stage.result c.empty_stage.ensures.stage

pub returns-clause-journal : goal.returns-clause-journal
returns-clause-journal g c = record {
  waiting = waiting_on _ _ _ c.replay.ensures.intent.journal.waiting c.empty_stage.ensures.stage.waiting;
  last = all_lasts _ _ _ c.replay.ensures.intent.journal.last c.in_ok-replay.ensures.intent.replayed c.empty_stage.ensures.stage.last;
}

pub returns-clause-gone : goal.returns-clause-gone
returns-clause-gone g c = gone_on _ _ _ _ c.in_ok-replay.ensures.intent c.empty_stage.result c.empty_stage.ensures.stage

pub returns-clause-idle : goal.returns-clause-idle
returns-clause-idle g c = idle_on _ _ _ _ c.in_ok-replay.ensures.intent c.empty_stage.result c.empty_stage.ensures.stage

pub returns-clause-refusal : goal.returns-clause-refusal
returns-clause-refusal g c = refusal_on _ _ (g.T.Tree.history c.empty_stage.new.tree) _ c.in_ok-replay.ensures.intent c.empty_stage.result c.empty_stage.ensures.only

pub returns-clause-counts : goal.returns-clause-counts
returns-clause-counts g c = counts_later _ _ _ c.replay.ensures.counts.goes_on c.in_ok-replay.ensures.counts.kept c.empty_stage.result c.empty_stage.ensures.counts

pub returns-clause-proper : goal.returns-clause-proper
returns-clause-proper g c = proper_on _ _ _ c.in_ok-replay.ensures.intent _ _ _ c.replay.ensures.proper c.empty_stage.ensures.proper
