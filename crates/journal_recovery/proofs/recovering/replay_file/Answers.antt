use Rattle.journal_core.proofs.OldOrNew.{bytes_end, found_bytes as bytes_acted}
use Rattle.journal_core.proofs.Leaving.{act_lasts, end_lasts, intent_waiting, sync_waiting, waiting_on}
use Rattle.std.proofs.Common.{refl}
use Rattle.journal_core.proofs.Counted.{later_counted, one_counted}
use Rattle.journal_core.proofs.History.{on_observable}
use Rattle.journal_recovery.proofs.Counted.{disk_counted, disk_is_other, error_of, no_ok, recovery_counted, unread_counted}
use Rattle.journal_recovery.proofs.Replaying.{replay_done, replay_fails, replay_refuses}
use Rattle.journal_recovery.proofs.Synced.{alone_proper, found_bytes, found_moments, found_proper, found_reads, found_replayed, found_settled, sync_bytes, sync_lasts, sync_moments, sync_proper, sync_reads, then_lasts}
use Rattle.journal_core.proofs.Carried.{act_failed, act_proper, act_reads, end_moments, end_reads, end_proper, end_replayed, end_settled, none_acted}
use Rattle.journal_recovery.proofs.recovering.replay_file.Goals as goal

pub apply_all-requires-clause-within : goal.apply_all-requires-clause-within
apply_all-requires-clause-within g c = none_acted c.in_ok-stage.stage c.in_ok-stage.ensures.none

pub returns-in_err-stage-clause-intent : goal.returns-in_err-stage-clause-intent
returns-in_err-stage-clause-intent g c =
    let r = c.from_residual in
    replay_refuses _ _ refl _ _ c.requires (no_ok r.result _ r.ensures.1) (λ cause is. c.in_err-stage.ensures.bad cause (error_of r.result _ _ r.ensures.1 is))

pub returns-in_err-sync_all_names-clause-intent : goal.returns-in_err-sync_all_names-clause-intent
returns-in_err-sync_all_names-clause-intent g c =
    replay_fails _ _ _ c.requires c.in_ok-stage.ensures.good
    (sync_moments _ _ _ c.in_err-sync_all_names.ensures.moves)
    (sync_reads _ _ _ c.in_err-sync_all_names.ensures.moves)
    (sync_bytes _ _ _ c.in_err-sync_all_names.ensures.moves)
    (record {
      waiting = sync_waiting _ _ _ c.in_err-sync_all_names.ensures.moves;
      last = sync_lasts _ _ _ c.in_err-sync_all_names.ensures.moves;
    })
    _ (disk_is_other c.from_residual-in_err-sync_all_names.result c.from_residual-in_err-sync_all_names.ensures.1)

pub returns-in_err-sync_all_names-clause-proper : goal.returns-in_err-sync_all_names-clause-proper
returns-in_err-sync_all_names-clause-proper g c =
    alone_proper _ _ _ (sync_proper _ _ _ _ c.in_err-sync_all_names.ensures.counts)

pub returns-in_err-apply_all-clause-intent : goal.returns-in_err-apply_all-clause-intent
returns-in_err-apply_all-clause-intent g c =
    replay_fails _ _ _ c.requires c.in_ok-stage.ensures.good
    (found_moments _ _ _ _ _ c.in_ok-sync_all_names.ensures.moves c.requires
    (act_failed _ c.apply_all.new.stage _ c.in_ok-stage.ensures.intent c.in_ok-stage.ensures.none _ _ c.apply_all.ensures.actions.moments))
    (found_reads _ _ _ _ _ c.in_ok-sync_all_names.ensures.moves c.requires
    (act_reads _ c.apply_all.new.stage _ c.in_ok-stage.ensures.intent c.in_ok-stage.ensures.none _ _ c.apply_all.ensures.actions.reads))
    (found_bytes _ _ _ _ _ c.in_ok-sync_all_names.ensures.moves c.requires
    (bytes_acted _ _ c.in_ok-stage.ensures.intent c.in_ok-stage.ensures.none _ _ c.apply_all.ensures.actions.bytes))
    (record {
      waiting = waiting_on _ _ _ (sync_waiting _ _ _ c.in_ok-sync_all_names.ensures.moves) (intent_waiting _ _ c.apply_all.ensures.waiting);
      last = then_lasts _ _ _ _ c.in_ok-sync_all_names.ensures.moves (act_lasts _ _ c.apply_all.ensures.waiting);
    })
    _ (disk_is_other c.from_residual-in_err-apply_all.result c.from_residual-in_err-apply_all.ensures.1)

pub returns-in_err-apply_all-clause-proper : goal.returns-in_err-apply_all-clause-proper
returns-in_err-apply_all-clause-proper g c =
    found_proper _ _ _ (g.T.Tree.history c.apply_all.new.tree) _ c.in_ok-sync_all_names.ensures.moves c.requires _ _ _ (sync_proper _ _ _ _ c.in_ok-sync_all_names.ensures.counts)
    (act_proper _ c.apply_all.new.stage _ c.in_ok-stage.ensures.intent c.in_ok-stage.ensures.none _ (g.T.Tree.history c.apply_all.new.tree) _ _ c.apply_all.ensures.proper)

pub returns-in_err-finish-clause-intent : goal.returns-in_err-finish-clause-intent
returns-in_err-finish-clause-intent g c =
    replay_fails _ _ _ c.requires c.in_ok-stage.ensures.good
    (found_moments _ _ _ _ _ c.in_ok-sync_all_names.ensures.moves c.requires
    (end_moments _ _ _ c.in_ok-stage.ensures.intent c.in_ok-stage.ensures.none _ _ _ c.apply_all.ensures.actions.moments c.in_ok-apply_all.ensures.acting c.finish.ensures.moments))
    (found_reads _ _ _ _ _ c.in_ok-sync_all_names.ensures.moves c.requires
    (end_reads _ _ _ c.in_ok-stage.ensures.intent c.in_ok-stage.ensures.none _ _ _ c.apply_all.ensures.actions.reads c.in_ok-apply_all.ensures.acting c.finish.ensures.reads))
    (found_bytes _ _ _ _ _ c.in_ok-sync_all_names.ensures.moves c.requires
    (bytes_acted _ _ c.in_ok-stage.ensures.intent c.in_ok-stage.ensures.none _ _ (bytes_end _ _ _ _ c.apply_all.ensures.actions.bytes c.finish.ensures.shown)))
    (record {
      waiting = waiting_on _ _ _ (sync_waiting _ _ _ c.in_ok-sync_all_names.ensures.moves) (waiting_on _ _ _ (intent_waiting _ _ c.apply_all.ensures.waiting) c.finish.ensures.waiting);
      last = then_lasts _ _ _ _ c.in_ok-sync_all_names.ensures.moves (end_lasts _ _ _ c.apply_all.ensures.waiting c.finish.ensures.last);
    })
    _ (disk_is_other c.from_residual-in_err-finish.result c.from_residual-in_err-finish.ensures.1)

pub returns-in_err-finish-clause-proper : goal.returns-in_err-finish-clause-proper
returns-in_err-finish-clause-proper g c =
    found_proper _ _ _ (g.T.Tree.history c.finish.new.tree) _ c.in_ok-sync_all_names.ensures.moves c.requires _ _ _ (sync_proper _ _ _ _ c.in_ok-sync_all_names.ensures.counts)
    (end_proper _ _ _ c.in_ok-stage.ensures.intent c.in_ok-stage.ensures.none _ _ (g.T.Tree.history c.finish.new.tree) _ _ _ c.in_ok-apply_all.ensures.acting c.apply_all.ensures.proper c.finish.ensures.proper)

pub returns-clause-intent : goal.returns-clause-intent
returns-clause-intent g c =
    replay_done _ _ _ c.requires c.in_ok-stage.ensures.good
    (found_moments _ _ _ _ _ c.in_ok-sync_all_names.ensures.moves c.requires
    (end_moments _ _ _ c.in_ok-stage.ensures.intent c.in_ok-stage.ensures.none _ _ _ c.apply_all.ensures.actions.moments c.in_ok-apply_all.ensures.acting c.finish.ensures.moments))
    (found_reads _ _ _ _ _ c.in_ok-sync_all_names.ensures.moves c.requires
    (end_reads _ _ _ c.in_ok-stage.ensures.intent c.in_ok-stage.ensures.none _ _ _ c.apply_all.ensures.actions.reads c.in_ok-apply_all.ensures.acting c.finish.ensures.reads))
    (found_bytes _ _ _ _ _ c.in_ok-sync_all_names.ensures.moves c.requires
    (bytes_acted _ _ c.in_ok-stage.ensures.intent c.in_ok-stage.ensures.none _ _ (bytes_end _ _ _ _ c.apply_all.ensures.actions.bytes c.finish.ensures.shown)))
    (record {
      waiting = waiting_on _ _ _ (sync_waiting _ _ _ c.in_ok-sync_all_names.ensures.moves) (waiting_on _ _ _ (intent_waiting _ _ c.apply_all.ensures.waiting) c.finish.ensures.waiting);
      last = then_lasts _ _ _ _ c.in_ok-sync_all_names.ensures.moves (end_lasts _ _ _ c.apply_all.ensures.waiting c.finish.ensures.last);
    })
    _
    (found_replayed _ _ _ _ _ c.in_ok-sync_all_names.ensures.moves c.requires
    (end_replayed _ _ _ c.in_ok-stage.ensures.intent c.in_ok-stage.ensures.none _ _ _ c.in_ok-apply_all.ensures.acting c.in_ok-finish.ensures.files))
    (found_settled _ _ _ _ _ c.in_ok-sync_all_names.ensures.moves c.requires
    (end_settled _ _ _ c.in_ok-stage.ensures.intent c.in_ok-stage.ensures.none _ _ _ c.apply_all.ensures.actions.moments c.in_ok-apply_all.ensures.acting c.in_ok-finish.ensures.settled))
    c.in_ok-finish.ensures.gone

pub returns-clause-proper : goal.returns-clause-proper
returns-clause-proper g c =
    found_proper _ _ _ (g.T.Tree.history c.finish.new.tree) _ c.in_ok-sync_all_names.ensures.moves c.requires _ _ _ (sync_proper _ _ _ _ c.in_ok-sync_all_names.ensures.counts)
    (end_proper _ _ _ c.in_ok-stage.ensures.intent c.in_ok-stage.ensures.none _ _ (g.T.Tree.history c.finish.new.tree) _ _ _ c.in_ok-apply_all.ensures.acting c.apply_all.ensures.proper c.finish.ensures.proper)

pub returns-in_err-stage-clause-counts : goal.returns-in_err-stage-clause-counts
returns-in_err-stage-clause-counts g c = unread_counted _ _ c.from_residual.result c.from_residual.ensures.1 c.in_err-stage.ensures.only

pub returns-in_err-stage-clause-proper : goal.returns-in_err-stage-clause-proper
returns-in_err-stage-clause-proper g c = on_observable (g.T.Tree.history c.args.tree.now) _ (λ v rest is free. refl)

pub returns-in_err-sync_all_names-clause-counts : goal.returns-in_err-sync_all_names-clause-counts
returns-in_err-sync_all_names-clause-counts g c =
    let r = c.from_residual-in_err-sync_all_names in
    disk_counted _ _ _ r.result r.ensures.1 (one_counted _ _ _ _ _ c.in_err-sync_all_names.ensures.counts)

pub returns-in_err-apply_all-clause-counts : goal.returns-in_err-apply_all-clause-counts
returns-in_err-apply_all-clause-counts g c =
    let r = c.from_residual-in_err-apply_all in
    disk_counted _ _ _ r.result r.ensures.1
    (later_counted _ _ _ _ _ (one_counted _ _ _ _ _ c.in_ok-sync_all_names.ensures.counts) c.in_err-apply_all.ensures.counts)

pub returns-in_err-finish-clause-counts : goal.returns-in_err-finish-clause-counts
returns-in_err-finish-clause-counts g c =
    let r = c.from_residual-in_err-finish in
    disk_counted _ _ _ r.result r.ensures.1
    (later_counted _ _ _ _ _ (one_counted _ _ _ _ _ c.in_ok-sync_all_names.ensures.counts)
    (later_counted _ _ _ _ _ c.in_ok-apply_all.ensures.counts c.in_err-finish.ensures.counts))

pub returns-clause-counts : goal.returns-clause-counts
returns-clause-counts g c =
    recovery_counted _ _ _ _
    (later_counted _ _ _ _ _ (one_counted _ _ _ _ _ c.in_ok-sync_all_names.ensures.counts)
    (later_counted _ _ _ _ _ c.in_ok-apply_all.ensures.counts c.in_ok-finish.ensures.counts))
