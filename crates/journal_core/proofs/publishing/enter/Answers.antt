use Rattle.std.proofs.Common.{◌∙◌, ◌∷◌, []}
use Rattle.journal_core.specs.Recovery.{intent_name, stage_name}
use Rattle.base_core.specs.Tree.{CanRename}
use Rattle.journal_core.proofs.History.{on_observable}
use Rattle.journal_core.proofs.OneCall.{now_is}
use Rattle.journal_core.proofs.Counted.{error_counted, if_failed, later_counted, one_counted}
use Rattle.journal_core.proofs.Chain.{IsAny, any_now, proper_now, step_now}
use Rattle.journal_core.proofs.Entered.{first_failed, first_done, rename_failed, rename_done, last_called, last_entered, last_acting, read_last, read_rename_failed, read_renamed, read_sync_failed, read_synced}
use Rattle.journal_core.proofs.Lasting.{enter_last, enter_moved, enter_rename_failed, enter_renamed, enter_sync_failed, enter_synced}
use Rattle.journal_core.proofs.Maps.{maps_on, names_maps, rename_maps}
use Rattle.journal_core.proofs.Throughout.{free_on, free_renamed, free_synced, maps_moved}
use Rattle.journal_core.proofs.Images.{crash_laws}
use Rattle.journal_core.proofs.publishing.enter.Goals as goal

pub returns-in_err-sync_all_names-clause-moments : goal.returns-in_err-sync_all_names-clause-moments
returns-in_err-sync_all_names-clause-moments g c =
    on_observable (g.T.Tree.history c.args.tree.now) _ (λ v rest is ignored intent base made is_durable ready.
    first_failed crash_laws ignored intent base made v _ rest is is_durable ready (g.T.Tree.history c.args.tree.now) _ _ c.in_err-sync_all_names.ensures.moves)

pub returns-in_err-rename-clause-moments : goal.returns-in_err-rename-clause-moments
returns-in_err-rename-clause-moments g c =
    on_observable (g.T.Tree.history c.args.tree.now) _ (λ v rest is ignored intent base made is_durable ready.
    rename_failed crash_laws ignored intent base made v _ rest is is_durable ready _ _ c.requires.place c.requires.name _ _ _
    (first_done crash_laws ignored intent base made v _ rest is is_durable ready (g.T.Tree.history c.args.tree.now) _ _ c.in_ok-sync_all_names.ensures.moves) c.in_err-rename.ensures.moves)

pub returns-clause-moments : goal.returns-clause-moments
returns-clause-moments g c =
    on_observable (g.T.Tree.history c.args.tree.now) _ (λ v rest is ignored intent base made is_durable ready.
    last_called crash_laws ignored intent base made v _ rest is is_durable ready _ _ c.sync_all_names-2.result
    (rename_done crash_laws ignored intent base made v _ rest is is_durable ready _ _ c.requires.place c.requires.name _ _ _
    (first_done crash_laws ignored intent base made v _ rest is is_durable ready (g.T.Tree.history c.args.tree.now) _ _ c.in_ok-sync_all_names.ensures.moves) c.in_ok-rename.ensures.moves) c.sync_all_names-2.ensures.moves)

pub returns-clause-entered : goal.returns-clause-entered
returns-clause-entered g c =
    on_observable (g.T.Tree.history c.args.tree.now) _ (λ v rest is ignored intent base made is_durable ready.
    last_entered crash_laws ignored intent base made v _ rest is is_durable ready _ _ c.sync_all_names-2.result
    (rename_done crash_laws ignored intent base made v _ rest is is_durable ready _ _ c.requires.place c.requires.name _ _ _
    (first_done crash_laws ignored intent base made v _ rest is is_durable ready (g.T.Tree.history c.args.tree.now) _ _ c.in_ok-sync_all_names.ensures.moves) c.in_ok-rename.ensures.moves) c.sync_all_names-2.ensures.moves)

pub returns-clause-acting : goal.returns-clause-acting
returns-clause-acting g c =
    on_observable (g.T.Tree.history c.args.tree.now) _ (λ v rest is intent base made ready.
    last_acting intent base made v ready _ _ c.requires.place c.requires.name _ rest _ _ _ is _ _ c.sync_all_names-2.result c.in_ok-sync_all_names.ensures.moves c.in_ok-rename.ensures.moves c.sync_all_names-2.ensures.moves)

pub returns-in_err-rename-clause-proper : goal.returns-in_err-rename-clause-proper
returns-in_err-rename-clause-proper g c =
    on_observable (g.T.Tree.history c.args.tree.now) _ (λ v rest is may.
    proper_now (CanRename c.args.place.now c.args.name.now) _ _ _ _ (step_now (CanRename c.args.place.now c.args.name.now) (CanRename c.args.place.now c.args.name.now) _ _ _ (now_is _ v rest _ is may) c.in_ok-sync_all_names.ensures.moves (λ w q. record { present = q.present; apart = q.apart; folders = q.folders })) c.in_err-rename.ensures.counts (λ w q. q)
    ∙ proper_now IsAny _ _ _ _ (any_now _ v rest is) c.in_ok-sync_all_names.ensures.counts (λ w q. tt))

pub returns-clause-proper : goal.returns-clause-proper
returns-clause-proper g c =
    on_observable (g.T.Tree.history c.args.tree.now) _ (λ v rest is may.
    let can = step_now (CanRename c.args.place.now c.args.name.now) (CanRename c.args.place.now c.args.name.now) _ _ _ (now_is _ v rest _ is may) c.in_ok-sync_all_names.ensures.moves (λ w q. record { present = q.present; apart = q.apart; folders = q.folders }) in
    proper_now IsAny _ _ _ c.sync_all_names-2.result (step_now (CanRename c.args.place.now c.args.name.now) IsAny _ _ _ can c.in_ok-rename.ensures.moves (λ w q. tt)) c.sync_all_names-2.ensures.counts (λ w q. tt)
    ∙ proper_now (CanRename c.args.place.now c.args.name.now) _ _ _ _ can c.in_ok-rename.ensures.counts (λ w q. q)
    ∙ proper_now IsAny _ _ _ _ (any_now _ v rest is) c.in_ok-sync_all_names.ensures.counts (λ w q. tt))

pub returns-in_err-sync_all_names-clause-names : goal.returns-in_err-sync_all_names-clause-names
returns-in_err-sync_all_names-clause-names g c = record {
  last =
      on_observable (g.T.Tree.history c.args.tree.now) _ (λ v rest is none.
      enter_sync_failed _ _ c.requires.place c.requires.name v _ rest is none (g.T.Tree.history c.args.tree.now) _ _ c.in_err-sync_all_names.ensures.moves);
  others = free_synced _ _ _ c.in_err-sync_all_names.ensures.moves;
  maps = names_maps _ _ _ (intent_name ∷ stage_name 0 ∷ []) c.in_err-sync_all_names.ensures.moves;
}

pub returns-in_err-rename-clause-names : goal.returns-in_err-rename-clause-names
returns-in_err-rename-clause-names g c = record {
  last =
      on_observable (g.T.Tree.history c.args.tree.now) _ (λ v rest is none.
      enter_rename_failed _ _ c.requires.place c.requires.name v _ rest is none _ _ _
      (enter_synced _ _ c.requires.place c.requires.name v _ rest is none (g.T.Tree.history c.args.tree.now) _ _ c.in_ok-sync_all_names.ensures.moves) c.in_err-rename.ensures.moves);
  others = free_on _ _ _ (free_synced (g.T.Tree.history c.args.tree.now) _ _ c.in_ok-sync_all_names.ensures.moves) (free_renamed _ _ _ _ _ c.requires.place c.requires.name c.in_err-rename.ensures.moves);
  maps =
      maps_on (intent_name ∷ stage_name 0 ∷ []) _ _ _ (names_maps (g.T.Tree.history c.args.tree.now) _ _ (intent_name ∷ stage_name 0 ∷ []) c.in_ok-sync_all_names.ensures.moves)
      (maps_moved _ _ c.requires.place c.requires.name _ _ (rename_maps _ _ _ c.args.place.now c.args.name.now c.in_err-rename.ensures.moves));
}

pub returns-clause-names : goal.returns-clause-names
returns-clause-names g c = record {
  last =
      on_observable (g.T.Tree.history c.args.tree.now) _ (λ v rest is none.
      enter_last _ _ c.requires.place c.requires.name v _ rest is none _ _ c.sync_all_names-2.result
      (enter_renamed _ _ c.requires.place c.requires.name v _ rest is none _ _ _
      (enter_synced _ _ c.requires.place c.requires.name v _ rest is none (g.T.Tree.history c.args.tree.now) _ _ c.in_ok-sync_all_names.ensures.moves) c.in_ok-rename.ensures.moves) c.sync_all_names-2.ensures.moves);
  others =
      free_on _ _ _ (free_on _ _ _ (free_synced (g.T.Tree.history c.args.tree.now) _ _ c.in_ok-sync_all_names.ensures.moves) (free_renamed _ _ _ _ _ c.requires.place c.requires.name c.in_ok-rename.ensures.moves))
      (free_synced _ _ c.sync_all_names-2.result c.sync_all_names-2.ensures.moves);
  maps =
      maps_on (intent_name ∷ stage_name 0 ∷ []) _ _ _ (maps_on (intent_name ∷ stage_name 0 ∷ []) _ _ _ (names_maps (g.T.Tree.history c.args.tree.now) _ _ (intent_name ∷ stage_name 0 ∷ []) c.in_ok-sync_all_names.ensures.moves)
      (maps_moved _ _ c.requires.place c.requires.name _ _ (rename_maps _ _ _ c.args.place.now c.args.name.now c.in_ok-rename.ensures.moves)))
      (names_maps _ _ c.sync_all_names-2.result (intent_name ∷ stage_name 0 ∷ []) c.sync_all_names-2.ensures.moves);
}

pub returns-in_err-sync_all_names-clause-reads : goal.returns-in_err-sync_all_names-clause-reads
returns-in_err-sync_all_names-clause-reads g c =
    on_observable (g.T.Tree.history c.args.tree.now) _ (λ v rest is intent base made ready.
    read_sync_failed intent base made v ready _ rest is (g.T.Tree.history c.args.tree.now) _ _ c.in_err-sync_all_names.ensures.moves)

pub returns-in_err-rename-clause-reads : goal.returns-in_err-rename-clause-reads
returns-in_err-rename-clause-reads g c =
    on_observable (g.T.Tree.history c.args.tree.now) _ (λ v rest is intent base made ready.
    read_rename_failed intent base made v ready _ rest is _ _ c.requires.place c.requires.name _ _ _
    (read_synced intent base made v ready _ rest is (g.T.Tree.history c.args.tree.now) _ _ c.in_ok-sync_all_names.ensures.moves) c.in_err-rename.ensures.moves)

pub returns-clause-reads : goal.returns-clause-reads
returns-clause-reads g c =
    on_observable (g.T.Tree.history c.args.tree.now) _ (λ v rest is intent base made ready.
    read_last intent base made v ready _ rest is _ _ c.sync_all_names-2.result
    (read_renamed intent base made v ready _ rest is _ _ c.requires.place c.requires.name _ _ _
    (read_synced intent base made v ready _ rest is (g.T.Tree.history c.args.tree.now) _ _ c.in_ok-sync_all_names.ensures.moves) c.in_ok-rename.ensures.moves) c.sync_all_names-2.ensures.moves)

pub returns-clause-moved : goal.returns-clause-moved
returns-clause-moved g c = enter_moved _ _ c.requires.place c.requires.name _ _ _ _ c.in_ok-rename.ensures.moves c.sync_all_names-2.result c.sync_all_names-2.ensures.moves

pub returns-in_err-sync_all_names-clause-entered : goal.returns-in_err-sync_all_names-clause-entered
returns-in_err-sync_all_names-clause-entered g c = on_observable (g.T.Tree.history c.args.tree.now) _ (λ v rest is ignored intent base made is_durable ready. if_failed c.from_residual.result _ _ c.from_residual.ensures.1)

pub returns-in_err-sync_all_names-clause-acting : goal.returns-in_err-sync_all_names-clause-acting
returns-in_err-sync_all_names-clause-acting g c = on_observable (g.T.Tree.history c.args.tree.now) _ (λ v rest is intent base made ready. if_failed c.from_residual.result _ _ c.from_residual.ensures.1)

pub returns-in_err-sync_all_names-clause-moved : goal.returns-in_err-sync_all_names-clause-moved
returns-in_err-sync_all_names-clause-moved g c = if_failed c.from_residual.result _ _ c.from_residual.ensures.1

pub returns-in_err-rename-clause-entered : goal.returns-in_err-rename-clause-entered
returns-in_err-rename-clause-entered g c = on_observable (g.T.Tree.history c.args.tree.now) _ (λ v rest is ignored intent base made is_durable ready. if_failed c.from_residual-in_err-rename.result _ _ c.from_residual-in_err-rename.ensures.1)

pub returns-in_err-rename-clause-acting : goal.returns-in_err-rename-clause-acting
returns-in_err-rename-clause-acting g c = on_observable (g.T.Tree.history c.args.tree.now) _ (λ v rest is intent base made ready. if_failed c.from_residual-in_err-rename.result _ _ c.from_residual-in_err-rename.ensures.1)

pub returns-in_err-rename-clause-moved : goal.returns-in_err-rename-clause-moved
returns-in_err-rename-clause-moved g c = if_failed c.from_residual-in_err-rename.result _ _ c.from_residual-in_err-rename.ensures.1

pub returns-in_err-sync_all_names-clause-counts : goal.returns-in_err-sync_all_names-clause-counts
returns-in_err-sync_all_names-clause-counts g c = error_counted _ _ _ c.from_residual.result _ c.from_residual.ensures.1 (one_counted _ _ _ _ _ c.in_err-sync_all_names.ensures.counts)

pub returns-in_err-rename-clause-counts : goal.returns-in_err-rename-clause-counts
returns-in_err-rename-clause-counts g c = error_counted _ _ _ c.from_residual-in_err-rename.result _ c.from_residual-in_err-rename.ensures.1 (later_counted _ _ _ _ _ (one_counted _ _ _ _ _ c.in_ok-sync_all_names.ensures.counts) (one_counted _ _ _ _ _ c.in_err-rename.ensures.counts))

pub returns-clause-counts : goal.returns-clause-counts
returns-clause-counts g c = later_counted _ _ _ _ c.sync_all_names-2.result (one_counted _ _ _ _ _ c.in_ok-sync_all_names.ensures.counts) (later_counted _ _ _ _ c.sync_all_names-2.result (one_counted _ _ _ _ _ c.in_ok-rename.ensures.counts) (one_counted _ _ _ _ c.sync_all_names-2.result c.sync_all_names-2.ensures.counts))

pub returns-in_err-sync_all_names-clause-proper : goal.returns-in_err-sync_all_names-clause-proper
returns-in_err-sync_all_names-clause-proper g c = on_observable (g.T.Tree.history c.args.tree.now) _ (λ v rest is may. proper_now IsAny _ _ _ _ (any_now _ v rest is) c.in_err-sync_all_names.ensures.counts (λ w q. tt))
