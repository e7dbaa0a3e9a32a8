use Rattle.journal_core.proofs.OldOrNew.{remove_shown, shown_on, sync_shown}
use Rattle.journal_core.proofs.Leaving.{remove_waiting, sync_waiting, waiting_on}
use Rattle.std.proofs.Common.{◌∙◌, ◌≡◌, refl}
use Rattle.journal_core.specs.Recovery.{intent_name}
use Rattle.journal_core.proofs.History.{on_observable}
use Rattle.journal_core.specs.Kept.{RecoversTo}
use Rattle.journal_core.specs.Quiet.{StateIsUnchanged}
use Rattle.journal_core.proofs.OneCall.{one_failed}
use Rattle.journal_core.proofs.Waiting.{still_self}
use Rattle.journal_core.proofs.Chain.{IsAny, any_now, any_step, proper_now}
use Rattle.journal_core.proofs.Finishing.{sync_done, drop_failed, drop_done, last_called, last_settled, last_files, stands_drop_failed, stands_dropped, stands_last, stands_synced}
use Rattle.journal_core.proofs.Keeping.{keeps_now, keeps_removed, keeps_synced}
use Rattle.journal_core.proofs.Lasting.{finish_gone, finish_last, finish_remove_failed, finish_removed, finish_sync_failed, finish_synced}
use Rattle.journal_core.proofs.Images.{crash_laws}
use Rattle.journal_core.proofs.stage.Stage.finish.Goals as goal

pub returns-in_err-sync_all_names-clause-moments : goal.returns-in_err-sync_all_names-clause-moments
returns-in_err-sync_all_names-clause-moments g c =
    on_observable (g.T.Tree.history c.args.tree.now) _ (λ v rest is ignored files is_durable acting.
    one_failed _ _ v rest is (StateIsUnchanged ignored v) _ c.in_err-sync_all_names.ensures.moves (λ may. still_self ignored v is_durable))

pub returns-in_err-remove-clause-moments : goal.returns-in_err-remove-clause-moments
returns-in_err-remove-clause-moments g c =
    on_observable (g.T.Tree.history c.args.tree.now) _ (λ v rest is ignored files is_durable acting.
    drop_failed crash_laws _ c.requires.all _ c.name.ensures ignored files v _ rest is is_durable acting _ _ _
    (sync_done crash_laws _ c.requires.all _ c.name.ensures ignored files v _ rest is is_durable acting (g.T.Tree.history c.args.tree.now) _ _ c.in_ok-sync_all_names.ensures.moves) c.in_err-remove.ensures.moves)

pub returns-clause-moments : goal.returns-clause-moments
returns-clause-moments g c =
    on_observable (g.T.Tree.history c.args.tree.now) _ (λ v rest is ignored files is_durable acting.
    last_called crash_laws _ c.requires.all _ c.name.ensures ignored files v _ rest is is_durable acting _ _ c.sync_all_names-2.result
    (drop_done crash_laws _ c.requires.all _ c.name.ensures ignored files v _ rest is is_durable acting _ _ _
    (sync_done crash_laws _ c.requires.all _ c.name.ensures ignored files v _ rest is is_durable acting (g.T.Tree.history c.args.tree.now) _ _ c.in_ok-sync_all_names.ensures.moves) c.in_ok-remove.ensures.moves) c.sync_all_names-2.ensures.moves)

pub returns-clause-settled : goal.returns-clause-settled
returns-clause-settled g c =
    on_observable (g.T.Tree.history c.args.tree.now) _ (λ v rest is ignored files is_durable acting.
    last_settled crash_laws _ c.requires.all _ c.name.ensures ignored files v _ rest is is_durable acting _ _ c.sync_all_names-2.result
    (drop_done crash_laws _ c.requires.all _ c.name.ensures ignored files v _ rest is is_durable acting _ _ _
    (sync_done crash_laws _ c.requires.all _ c.name.ensures ignored files v _ rest is is_durable acting (g.T.Tree.history c.args.tree.now) _ _ c.in_ok-sync_all_names.ensures.moves) c.in_ok-remove.ensures.moves) c.sync_all_names-2.ensures.moves)

pub returns-clause-files : goal.returns-clause-files
returns-clause-files g c =
    on_observable (g.T.Tree.history c.args.tree.now) _ (λ v rest is files acting.
    last_files crash_laws _ c.requires.all _ c.name.ensures files v _ rest is acting _ _ _ _ _ c.sync_all_names-2.result c.in_ok-sync_all_names.ensures.moves c.in_ok-remove.ensures.moves c.sync_all_names-2.ensures.moves)

pub returns-in_err-sync_all_names-clause-proper : goal.returns-in_err-sync_all_names-clause-proper
returns-in_err-sync_all_names-clause-proper g c =
    on_observable (g.T.Tree.history c.args.tree.now) _ (λ v rest is.
    proper_now IsAny _ _ _ _ (any_now _ v rest is) c.in_err-sync_all_names.ensures.counts (λ w q. tt))

pub returns-in_err-remove-clause-proper : goal.returns-in_err-remove-clause-proper
returns-in_err-remove-clause-proper g c =
    on_observable (g.T.Tree.history c.args.tree.now) _ (λ v rest is.
    proper_now IsAny _ _ _ _ (any_step _ _ _ (any_now _ v rest is) c.in_ok-sync_all_names.ensures.moves) c.in_err-remove.ensures.counts (λ w q. tt)
    ∙ proper_now IsAny _ _ _ _ (any_now _ v rest is) c.in_ok-sync_all_names.ensures.counts (λ w q. tt))

pub returns-clause-proper : goal.returns-clause-proper
returns-clause-proper g c =
    on_observable (g.T.Tree.history c.args.tree.now) _ (λ v rest is.
    let first = any_step _ _ _ (any_now _ v rest is) c.in_ok-sync_all_names.ensures.moves in
    proper_now IsAny _ _ _ c.sync_all_names-2.result (any_step _ _ _ first c.in_ok-remove.ensures.moves) c.sync_all_names-2.ensures.counts (λ w q. tt)
    ∙ proper_now IsAny _ _ _ _ first c.in_ok-remove.ensures.counts (λ w q. tt)
    ∙ proper_now IsAny _ _ _ _ (any_now _ v rest is) c.in_ok-sync_all_names.ensures.counts (λ w q. tt))

pub returns-in_err-sync_all_names-clause-last : goal.returns-in_err-sync_all_names-clause-last
returns-in_err-sync_all_names-clause-last g c =
    on_observable (g.T.Tree.history c.args.tree.now) _ (λ v rest is some.
    finish_sync_failed intent_name refl v _ rest is some (g.T.Tree.history c.args.tree.now) _ _ c.in_err-sync_all_names.ensures.moves)

pub returns-in_err-remove-clause-last : goal.returns-in_err-remove-clause-last
returns-in_err-remove-clause-last g c =
    on_observable (g.T.Tree.history c.args.tree.now) _ (λ v rest is some.
    finish_remove_failed _ c.name.ensures v _ rest is some _ _ _
    (finish_synced _ c.name.ensures v _ rest is some (g.T.Tree.history c.args.tree.now) _ _ c.in_ok-sync_all_names.ensures.moves) c.in_err-remove.ensures.moves)

pub returns-clause-last : goal.returns-clause-last
returns-clause-last g c =
    on_observable (g.T.Tree.history c.args.tree.now) _ (λ v rest is some.
    finish_last _ c.name.ensures v _ rest is some _ _ c.sync_all_names-2.result
    (finish_removed _ c.name.ensures v _ rest is some _ _ _
    (finish_synced _ c.name.ensures v _ rest is some (g.T.Tree.history c.args.tree.now) _ _ c.in_ok-sync_all_names.ensures.moves) c.in_ok-remove.ensures.moves) c.sync_all_names-2.ensures.moves)

pub returns-clause-gone : goal.returns-clause-gone
returns-clause-gone g c = finish_gone _ c.name.ensures _ _ _ _ c.in_ok-remove.ensures.moves c.sync_all_names-2.result c.sync_all_names-2.ensures.moves

pub returns-in_err-sync_all_names-clause-others : goal.returns-in_err-sync_all_names-clause-others
returns-in_err-sync_all_names-clause-others g c =
    on_observable (g.T.Tree.history c.args.tree.now) _ (λ v rest is.
    keeps_synced (λ q. q ≡ intent_name) v _ _ _ (keeps_now (λ q. q ≡ intent_name) _ v rest is) c.in_err-sync_all_names.ensures.moves)

pub returns-in_err-remove-clause-others : goal.returns-in_err-remove-clause-others
returns-in_err-remove-clause-others g c =
    on_observable (g.T.Tree.history c.args.tree.now) _ (λ v rest is.
    keeps_removed (λ q. q ≡ intent_name) v _ _ _
    (keeps_synced (λ q. q ≡ intent_name) v _ _ _ (keeps_now (λ q. q ≡ intent_name) _ v rest is) c.in_ok-sync_all_names.ensures.moves)
    _ c.name.ensures c.in_err-remove.ensures.moves)

pub returns-clause-others : goal.returns-clause-others
returns-clause-others g c =
    on_observable (g.T.Tree.history c.args.tree.now) _ (λ v rest is.
    keeps_synced (λ q. q ≡ intent_name) v _ _ c.sync_all_names-2.result
    (keeps_removed (λ q. q ≡ intent_name) v _ _ _
    (keeps_synced (λ q. q ≡ intent_name) v _ _ _ (keeps_now (λ q. q ≡ intent_name) _ v rest is) c.in_ok-sync_all_names.ensures.moves)
    _ c.name.ensures c.in_ok-remove.ensures.moves) c.sync_all_names-2.ensures.moves)

pub returns-in_err-sync_all_names-clause-reads : goal.returns-in_err-sync_all_names-clause-reads
returns-in_err-sync_all_names-clause-reads g c =
    on_observable (g.T.Tree.history c.args.tree.now) _ (λ v rest is files acting.
    one_failed _ _ v rest is (RecoversTo files) _ c.in_err-sync_all_names.ensures.moves (λ may. acting.reads))

pub returns-in_err-remove-clause-reads : goal.returns-in_err-remove-clause-reads
returns-in_err-remove-clause-reads g c =
    on_observable (g.T.Tree.history c.args.tree.now) _ (λ v rest is files acting.
    stands_drop_failed crash_laws _ c.requires.all _ c.name.ensures files v _ rest is acting _ _ _
    (stands_synced crash_laws _ c.requires.all _ c.name.ensures files v _ rest is acting (g.T.Tree.history c.args.tree.now) _ _ c.in_ok-sync_all_names.ensures.moves) c.in_err-remove.ensures.moves)

pub returns-clause-reads : goal.returns-clause-reads
returns-clause-reads g c =
    on_observable (g.T.Tree.history c.args.tree.now) _ (λ v rest is files acting.
    stands_last crash_laws _ c.requires.all _ c.name.ensures files v _ rest is acting _ _ c.sync_all_names-2.result
    (stands_dropped crash_laws _ c.requires.all _ c.name.ensures files v _ rest is acting _ _ _
    (stands_synced crash_laws _ c.requires.all _ c.name.ensures files v _ rest is acting (g.T.Tree.history c.args.tree.now) _ _ c.in_ok-sync_all_names.ensures.moves) c.in_ok-remove.ensures.moves) c.sync_all_names-2.ensures.moves)

pub returns-in_err-sync_all_names-clause-waiting : goal.returns-in_err-sync_all_names-clause-waiting
returns-in_err-sync_all_names-clause-waiting g c = sync_waiting _ _ _ c.in_err-sync_all_names.ensures.moves

pub returns-in_err-remove-clause-waiting : goal.returns-in_err-remove-clause-waiting
returns-in_err-remove-clause-waiting g c = waiting_on _ _ _ (sync_waiting _ _ _ c.in_ok-sync_all_names.ensures.moves) (remove_waiting _ _ _ _ c.in_err-remove.ensures.moves)

pub returns-clause-waiting : goal.returns-clause-waiting
returns-clause-waiting g c = waiting_on _ _ _ (waiting_on _ _ _ (sync_waiting (g.T.Tree.history c.args.tree.now) _ _ c.in_ok-sync_all_names.ensures.moves) (remove_waiting _ _ _ _ c.in_ok-remove.ensures.moves)) (sync_waiting _ _ c.sync_all_names-2.result c.sync_all_names-2.ensures.moves)

pub returns-in_err-sync_all_names-clause-shown : goal.returns-in_err-sync_all_names-clause-shown
returns-in_err-sync_all_names-clause-shown g c = sync_shown _ _ _ c.in_err-sync_all_names.ensures.moves

pub returns-in_err-remove-clause-shown : goal.returns-in_err-remove-clause-shown
returns-in_err-remove-clause-shown g c = shown_on _ _ _ (sync_shown _ _ _ c.in_ok-sync_all_names.ensures.moves) (remove_shown _ c.name.ensures _ _ _ c.in_err-remove.ensures.moves)

pub returns-clause-shown : goal.returns-clause-shown
returns-clause-shown g c = shown_on _ _ _ (shown_on _ _ _ (sync_shown (g.T.Tree.history c.args.tree.now) _ _ c.in_ok-sync_all_names.ensures.moves) (remove_shown _ c.name.ensures _ _ _ c.in_ok-remove.ensures.moves)) (sync_shown _ _ c.sync_all_names-2.result c.sync_all_names-2.ensures.moves)
