use Rattle.std.proofs.Common.{◌∙◌, ◌++◌, ◌∷◌, [], false, refl}
use Rattle.base_core.specs.Tree.{CanCreate, HasName, File}
use Rattle.journal_core.proofs.History.{on_observable, observable_at}
use Rattle.journal_core.proofs.OneCall.{now_is, whole_now}
use Rattle.journal_core.proofs.Chain.{proper_now, step_now}
use Rattle.journal_core.proofs.Written.{make_failed, make_done, extend_failed, extend_done, sync_called, last_written, some_created, some_changed}
use Rattle.journal_core.proofs.Keeping.{append_keeps_waiting, create_keeps, sync_keeps_waiting}
use Rattle.journal_core.proofs.Lasting.{fill_done as unread_filled, fill_failed as unread_fill_failed, make_done as unread_made, make_failed as unread_make_failed, ok_absent, sync_done as unread_synced}
use Rattle.journal_core.proofs.Maps.{append_maps, create_maps, maps_at, maps_on, sync_maps}
use Rattle.journal_core.specs.Recovery.{stage_name}
use Rattle.journal_core.proofs.Images.{crash_laws}
use Rattle.journal_core.proofs.publishing.write_waiting.Goals as goal

pub returns-in_err-create-clause-moments : goal.returns-in_err-create-clause-moments
returns-in_err-create-clause-moments g c =
    on_observable (g.T.Tree.history c.args.tree.now) _ (λ v rest is ignored is_durable none.
    make_failed crash_laws c.args.place.now c.requires ignored v _ rest is (whole_now _ v rest is (g.met.T.Tree.whole c.args.tree.now)) is_durable (g.T.Tree.history c.args.tree.now) _ _ c.in_err-create.ensures.moves)

pub returns-in_err-append-clause-moments : goal.returns-in_err-append-clause-moments
returns-in_err-append-clause-moments g c =
    on_observable (g.T.Tree.history c.args.tree.now) _ (λ v rest is ignored is_durable none.
    let whole = whole_now _ v rest is (g.met.T.Tree.whole c.args.tree.now) in
    extend_failed crash_laws c.args.place.now c.requires ignored v _ rest is whole is_durable _ _ c.args.bytes.now _
    (make_done crash_laws c.args.place.now c.requires ignored v _ rest is whole is_durable (g.T.Tree.history c.args.tree.now) _ _ c.in_ok-create.ensures.moves) c.in_err-append.ensures.moves)

pub returns-clause-moments : goal.returns-clause-moments
returns-clause-moments g c =
    on_observable (g.T.Tree.history c.args.tree.now) _ (λ v rest is ignored is_durable none.
    let whole = whole_now _ v rest is (g.met.T.Tree.whole c.args.tree.now) in
    sync_called crash_laws c.args.place.now c.requires ignored v _ rest is whole is_durable _ _ c.sync_file.result
    (extend_done crash_laws c.args.place.now c.requires ignored v _ rest is whole is_durable _ _ c.args.bytes.now _
    (make_done crash_laws c.args.place.now c.requires ignored v _ rest is whole is_durable (g.T.Tree.history c.args.tree.now) _ _ c.in_ok-create.ensures.moves) c.in_ok-append.ensures.moves) c.sync_file.ensures.moves)

pub returns-clause-written : goal.returns-clause-written
returns-clause-written g c =
    on_observable (g.T.Tree.history c.args.tree.now) _ (λ v rest is none.
    let may = observable_at _ v rest is (CanCreate c.args.place.now) c.in_ok-create.ensures.counts.allowed in
    last_written c.args.place.now v (whole_now _ v rest is (g.met.T.Tree.whole c.args.tree.now)) c.args.bytes.now _ rest _ _ _ is may.absent _ _ c.sync_file.result c.in_ok-create.ensures.moves c.in_ok-append.ensures.moves c.sync_file.ensures.moves)

pub returns-in_err-create-clause-proper : goal.returns-in_err-create-clause-proper
returns-in_err-create-clause-proper g c =
    on_observable (g.T.Tree.history c.args.tree.now) _ (λ v rest is may.
    proper_now (CanCreate c.args.place.now) _ _ _ _ (now_is _ v rest _ is may) c.in_err-create.ensures.counts (λ w q. q))

pub returns-in_err-append-clause-proper : goal.returns-in_err-append-clause-proper
returns-in_err-append-clause-proper g c =
    on_observable (g.T.Tree.history c.args.tree.now) _ (λ v rest is may.
    proper_now (HasName c.args.place.now) _ _ _ _ (step_now (CanCreate c.args.place.now) (HasName c.args.place.now) _ _ _ (now_is _ v rest _ is may) c.in_ok-create.ensures.moves (λ w q. some_created c.args.place.now w)) c.in_err-append.ensures.counts (λ w q. q)
    ∙ proper_now (CanCreate c.args.place.now) _ _ _ _ (now_is _ v rest _ is may) c.in_ok-create.ensures.counts (λ w q. q))

pub returns-clause-proper : goal.returns-clause-proper
returns-clause-proper g c =
    on_observable (g.T.Tree.history c.args.tree.now) _ (λ v rest is may.
    let made = step_now (CanCreate c.args.place.now) (HasName c.args.place.now) _ _ _ (now_is _ v rest _ is may) c.in_ok-create.ensures.moves (λ w q. some_created c.args.place.now w) in
    let fully_staged_stage = step_now (HasName c.args.place.now) (HasName c.args.place.now) _ _ _ made c.in_ok-append.ensures.moves (some_changed (λ (f : File). record { bytes = f.bytes ++ c.args.bytes.now; synced = false }) c.args.place.now) in
    proper_now (HasName c.args.place.now) _ _ _ c.sync_file.result fully_staged_stage c.sync_file.ensures.counts (λ w q. q)
    ∙ proper_now (HasName c.args.place.now) _ _ _ _ made c.in_ok-append.ensures.counts (λ w q. q)
    ∙ proper_now (CanCreate c.args.place.now) _ _ _ _ (now_is _ v rest _ is may) c.in_ok-create.ensures.counts (λ w q. q))

pub returns-in_err-create-clause-unread : goal.returns-in_err-create-clause-unread
returns-in_err-create-clause-unread g c =
    on_observable (g.T.Tree.history c.args.tree.now) _ (λ v rest is none.
    unread_make_failed _ c.requires v _ rest is none (g.T.Tree.history c.args.tree.now) _ _ c.in_err-create.ensures.moves)

pub returns-in_err-append-clause-unread : goal.returns-in_err-append-clause-unread
returns-in_err-append-clause-unread g c =
    on_observable (g.T.Tree.history c.args.tree.now) _ (λ v rest is none.
    unread_fill_failed _ c.requires v _ rest is none _ _ c.args.bytes.now _
    (unread_made _ c.requires v _ rest is none (g.T.Tree.history c.args.tree.now) _ _ c.in_ok-create.ensures.moves) c.in_err-append.ensures.moves)

pub returns-clause-unread : goal.returns-clause-unread
returns-clause-unread g c =
    on_observable (g.T.Tree.history c.args.tree.now) _ (λ v rest is none.
    unread_synced _ c.requires v _ rest is none _ _ c.sync_file.result
    (unread_filled _ c.requires v _ rest is none _ _ c.args.bytes.now _
    (unread_made _ c.requires v _ rest is none (g.T.Tree.history c.args.tree.now) _ _ c.in_ok-create.ensures.moves) c.in_ok-append.ensures.moves) c.sync_file.ensures.moves)

pub returns-in_err-create-clause-others : goal.returns-in_err-create-clause-others
returns-in_err-create-clause-others g c = create_keeps _ _ c.args.place.now c.args.place.now refl _ c.in_err-create.ensures.moves (g.met.T.Tree.whole c.args.tree.now)

pub returns-in_err-append-clause-others : goal.returns-in_err-append-clause-others
returns-in_err-append-clause-others g c =
    on_observable (g.T.Tree.history c.args.tree.now) _ (λ v rest is.
    append_keeps_waiting c.args.place.now v (whole_now _ v rest is (g.met.T.Tree.whole c.args.tree.now)) _ rest is _ _ c.in_ok-create.ensures.moves c.args.bytes.now _ _ c.in_err-append.ensures.moves)

pub returns-clause-others : goal.returns-clause-others
returns-clause-others g c =
    on_observable (g.T.Tree.history c.args.tree.now) _ (λ v rest is.
    sync_keeps_waiting c.args.place.now v (whole_now _ v rest is (g.met.T.Tree.whole c.args.tree.now)) _ rest is _ _ c.in_ok-create.ensures.moves c.args.bytes.now _ _ _ c.sync_file.result c.in_ok-append.ensures.moves c.sync_file.ensures.moves)

pub returns-clause-absent : goal.returns-clause-absent
returns-clause-absent g c = ok_absent c.sync_file.result _ c.args.place.now c.in_ok-create.ensures.counts.allowed

pub returns-in_err-create-clause-maps : goal.returns-in_err-create-clause-maps
returns-in_err-create-clause-maps g c = maps_at _ _ c.requires _ _ (create_maps _ _ _ c.args.place.now c.in_err-create.ensures.moves)

pub returns-in_err-append-clause-maps : goal.returns-in_err-append-clause-maps
returns-in_err-append-clause-maps g c =
    maps_on (stage_name 0 ∷ []) _ _ _ (maps_at _ _ c.requires _ _ (create_maps (g.T.Tree.history c.args.tree.now) _ _ c.args.place.now c.in_ok-create.ensures.moves))
    (append_maps _ _ _ (stage_name 0 ∷ []) c.args.place.now c.args.bytes.now c.in_err-append.ensures.moves)

pub returns-clause-maps : goal.returns-clause-maps
returns-clause-maps g c =
    maps_on (stage_name 0 ∷ []) _ _ _ (maps_on (stage_name 0 ∷ []) _ _ _ (maps_at _ _ c.requires _ _ (create_maps (g.T.Tree.history c.args.tree.now) _ _ c.args.place.now c.in_ok-create.ensures.moves))
    (append_maps _ _ _ (stage_name 0 ∷ []) c.args.place.now c.args.bytes.now c.in_ok-append.ensures.moves))
    (sync_maps _ _ c.sync_file.result (stage_name 0 ∷ []) c.args.place.now c.sync_file.ensures.moves)
