use Rattle.base_core.proofs.Counting.{goes_on_twice, no_fault_twice, goes_on_same, no_fault_same}
use Rattle.journal_core.proofs.OldOrNew.{bytes_called, bytes_start}
use Rattle.journal_core.proofs.Leaving.{intent_on, intent_start}
use Rattle.journal_core.proofs.Rowing.{acts_done, acts_start, left_of, proper_done, proper_start, published_next, reads_called, reads_start, rowed_called, rowed_done, rowed_ends, rowed_start, within_next}
use Rattle.journal_core.proofs.stage.apply_all.Goals as goal

pub loop-stage-init : goal.loop-stage-init
loop-stage-init g c = (c.requires.published, c.requires.within, rowed_start _ _, acts_start _ _, proper_start _ _ _, goes_on_same _, no_fault_same _, reads_start _ _, intent_start _, bytes_start _ _)

pub loop-stage-preserved : goal.loop-stage-preserved
loop-stage-preserved g c =
    let (published, within, rowed, acts, proper, goes, none, reads, waiting, bytes) = c.loop-stage.invariant in
    let less = left_of _ _ _ c.has_more.ensures c.loop-stage-test.true in (
      published_next _ _ published (c.in_ok-apply_one.ensures.more less),
      within_next _ _ less (c.in_ok-apply_one.ensures.more less),
      rowed_done _ _ _ _ _ _ c.in_ok-apply_one.ensures.acting rowed c.in_ok-apply_one.ensures.actions.moments,
      acts_done _ _ _ _ _ _ c.in_ok-apply_one.ensures.acting acts,
      proper_done _ _ _ _ _ _ _ acts proper c.in_ok-apply_one.ensures.proper,
      goes_on_twice _ _ _ goes c.in_ok-apply_one.ensures.counts.goes_on,
      no_fault_twice _ _ _ none c.in_ok-apply_one.ensures.counts.kept,
      reads_called _ _ _ _ _ acts reads c.in_ok-apply_one.ensures.actions.reads,
      intent_on _ _ _ waiting c.in_ok-apply_one.ensures.waiting,
      bytes_called _ _ _ _ _ acts bytes c.in_ok-apply_one.ensures.actions.bytes,
    )

pub returns-in_err-apply_one-clause-actions : goal.returns-in_err-apply_one-clause-actions
returns-in_err-apply_one-clause-actions g c =
    let (published, within, rowed, acts, proper, goes, none, reads, waiting, bytes) = c.loop-stage.invariant in
    record {
      moments = rowed_called _ _ _ _ _ rowed c.in_err-apply_one.ensures.actions.moments;
      reads = reads_called _ _ _ _ _ acts reads c.in_err-apply_one.ensures.actions.reads;
      bytes = bytes_called _ _ _ _ _ acts bytes c.in_err-apply_one.ensures.actions.bytes;
    }

pub returns-in_err-apply_one-clause-proper : goal.returns-in_err-apply_one-clause-proper
returns-in_err-apply_one-clause-proper g c =
    let (published, within, rowed, acts, proper, goes, none, reads, waiting, bytes) = c.loop-stage.invariant in
    proper_done _ _ _ _ _ _ _ acts proper c.in_err-apply_one.ensures.proper

pub returns-clause-actions : goal.returns-clause-actions
returns-clause-actions g c =
    let (published, within, rowed, acts, proper, goes, none, reads, waiting, bytes) = c.loop-stage.invariant in
    record {
      moments = rowed_ends _ _ _ _ rowed;
      reads = reads;
      bytes = bytes;
    }

pub returns-in_err-apply_one-clause-waiting : goal.returns-in_err-apply_one-clause-waiting
returns-in_err-apply_one-clause-waiting g c =
    let (published, within, rowed, acts, proper, goes, none, reads, waiting, bytes) = c.loop-stage.invariant in
    intent_on _ _ _ waiting c.in_err-apply_one.ensures.waiting

pub returns-clause-waiting : goal.returns-clause-waiting
returns-clause-waiting g c =
    let (published, within, rowed, acts, proper, goes, none, reads, waiting, bytes) = c.loop-stage.invariant in
    waiting
