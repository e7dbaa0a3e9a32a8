use Rattle.std.proofs.Common.{◌∙◌, [], ◌∷◌}
use Rattle.base_core.specs.Tree.{CanRename}
use Rattle.journal_core.proofs.Chain.{IsAny, any_now, proper_now, step_now}
use Rattle.journal_core.proofs.Maps.{maps_on, names_maps, rename_maps}
use Rattle.journal_core.proofs.Counted.{error_counted, if_failed, later_counted, one_counted}
use Rattle.journal_core.proofs.History.{on_observable}
use Rattle.journal_core.proofs.OneCall.{now_is}
use Rattle.journal_commit.proofs.Settle.{first_done, first_failed, full_now, names_called, names_settled, rename_done, rename_failed}
use Rattle.journal_core.proofs.Images.{crash_laws}
use Rattle.journal_commit.proofs.new_file.settle.Goals as goal

pub returns-in_err-sync_all_names-clause-moments : goal.returns-in_err-sync_all_names-clause-moments
returns-in_err-sync_all_names-clause-moments g c =
    on_observable (g.T.Tree.history c.args.tree.now) _ (λ v rest is bytes start full.
    first_failed crash_laws c.args.from.now c.args.to.now bytes c.requires start (g.T.Tree.history c.args.tree.now) _ _ (full_now crash_laws c.args.from.now c.args.to.now bytes c.requires start _ v rest is full) c.in_err-sync_all_names.ensures.moves)

pub returns-in_err-rename-clause-moments : goal.returns-in_err-rename-clause-moments
returns-in_err-rename-clause-moments g c =
    on_observable (g.T.Tree.history c.args.tree.now) _ (λ v rest is bytes start full.
    let first = first_done crash_laws c.args.from.now c.args.to.now bytes c.requires start (g.T.Tree.history c.args.tree.now) _ _ (full_now crash_laws c.args.from.now c.args.to.now bytes c.requires start _ v rest is full) c.in_ok-sync_all_names.ensures.moves in
    rename_failed crash_laws c.args.from.now c.args.to.now bytes c.requires start _ _ _ _ first c.in_err-rename.ensures.moves)

pub returns-clause-moments : goal.returns-clause-moments
returns-clause-moments g c =
    on_observable (g.T.Tree.history c.args.tree.now) _ (λ v rest is bytes start full.
    let first = first_done crash_laws c.args.from.now c.args.to.now bytes c.requires start (g.T.Tree.history c.args.tree.now) _ _ (full_now crash_laws c.args.from.now c.args.to.now bytes c.requires start _ v rest is full) c.in_ok-sync_all_names.ensures.moves in
    let ran = rename_done crash_laws c.args.from.now c.args.to.now bytes c.requires start _ _ _ _ first c.in_ok-rename.ensures.moves in
    names_called crash_laws c.args.from.now c.args.to.now bytes c.requires start _ _ _ c.sync_all_names-2.result ran c.sync_all_names-2.ensures.moves)

pub returns-clause-settled : goal.returns-clause-settled
returns-clause-settled g c =
    on_observable (g.T.Tree.history c.args.tree.now) _ (λ v rest is bytes start full.
    let first = first_done crash_laws c.args.from.now c.args.to.now bytes c.requires start (g.T.Tree.history c.args.tree.now) _ _ (full_now crash_laws c.args.from.now c.args.to.now bytes c.requires start _ v rest is full) c.in_ok-sync_all_names.ensures.moves in
    let ran = rename_done crash_laws c.args.from.now c.args.to.now bytes c.requires start _ _ _ _ first c.in_ok-rename.ensures.moves in
    names_settled crash_laws c.args.from.now c.args.to.now bytes c.requires start _ _ _ c.sync_all_names-2.result ran c.sync_all_names-2.ensures.moves)

pub returns-in_err-sync_all_names-clause-others : goal.returns-in_err-sync_all_names-clause-others
returns-in_err-sync_all_names-clause-others g c = names_maps _ _ c.sync_all_names.result (c.args.to.now ∷ c.args.from.now ∷ []) c.sync_all_names.ensures.moves

pub returns-in_err-rename-clause-others : goal.returns-in_err-rename-clause-others
returns-in_err-rename-clause-others g c =
    maps_on (c.args.to.now ∷ c.args.from.now ∷ []) _ _ _ (names_maps _ _ c.sync_all_names.result (c.args.to.now ∷ c.args.from.now ∷ []) c.sync_all_names.ensures.moves)
    (rename_maps _ _ c.rename.result c.args.from.now c.args.to.now c.rename.ensures.moves)

pub returns-clause-others : goal.returns-clause-others
returns-clause-others g c =
    maps_on (c.args.to.now ∷ c.args.from.now ∷ []) _ _ _
    (maps_on (c.args.to.now ∷ c.args.from.now ∷ []) _ _ _ (names_maps _ _ c.sync_all_names.result (c.args.to.now ∷ c.args.from.now ∷ []) c.sync_all_names.ensures.moves)
    (rename_maps _ _ c.rename.result c.args.from.now c.args.to.now c.rename.ensures.moves))
    (names_maps _ _ c.sync_all_names-2.result (c.args.to.now ∷ c.args.from.now ∷ []) c.sync_all_names-2.ensures.moves)

pub returns-in_err-rename-clause-proper : goal.returns-in_err-rename-clause-proper
returns-in_err-rename-clause-proper g c =
    on_observable (g.T.Tree.history c.args.tree.now) _ (λ v rest is may.
    proper_now (CanRename c.args.from.now c.args.to.now) _ _ _ _ (step_now (CanRename c.args.from.now c.args.to.now) (CanRename c.args.from.now c.args.to.now) _ _ _ (now_is _ v rest _ is may) c.in_ok-sync_all_names.ensures.moves (λ w q. record { present = q.present; apart = q.apart; folders = q.folders })) c.in_err-rename.ensures.counts (λ w q. q)
    ∙ proper_now IsAny _ _ _ _ (any_now _ v rest is) c.in_ok-sync_all_names.ensures.counts (λ w q. tt))

pub returns-clause-proper : goal.returns-clause-proper
returns-clause-proper g c =
    on_observable (g.T.Tree.history c.args.tree.now) _ (λ v rest is may.
    let can = step_now (CanRename c.args.from.now c.args.to.now) (CanRename c.args.from.now c.args.to.now) _ _ _ (now_is _ v rest _ is may) c.in_ok-sync_all_names.ensures.moves (λ w q. record { present = q.present; apart = q.apart; folders = q.folders }) in
    proper_now IsAny _ _ _ c.sync_all_names-2.result (step_now (CanRename c.args.from.now c.args.to.now) IsAny _ _ _ can c.in_ok-rename.ensures.moves (λ w q. tt)) c.sync_all_names-2.ensures.counts (λ w q. tt)
    ∙ proper_now (CanRename c.args.from.now c.args.to.now) _ _ _ _ can c.in_ok-rename.ensures.counts (λ w q. q)
    ∙ proper_now IsAny _ _ _ _ (any_now _ v rest is) c.in_ok-sync_all_names.ensures.counts (λ w q. tt))

pub returns-in_err-sync_all_names-clause-settled : goal.returns-in_err-sync_all_names-clause-settled
returns-in_err-sync_all_names-clause-settled g c = on_observable (g.T.Tree.history c.args.tree.now) _ (λ v rest is bytes start full. if_failed c.from_residual.result _ _ c.from_residual.ensures.1)

pub returns-in_err-sync_all_names-clause-counts : goal.returns-in_err-sync_all_names-clause-counts
returns-in_err-sync_all_names-clause-counts g c = error_counted _ _ _ c.from_residual.result _ c.from_residual.ensures.1 (one_counted _ _ _ _ _ c.in_err-sync_all_names.ensures.counts)

pub returns-in_err-rename-clause-settled : goal.returns-in_err-rename-clause-settled
returns-in_err-rename-clause-settled g c = on_observable (g.T.Tree.history c.args.tree.now) _ (λ v rest is bytes start full. if_failed c.from_residual-in_err-rename.result _ _ c.from_residual-in_err-rename.ensures.1)

pub returns-in_err-rename-clause-counts : goal.returns-in_err-rename-clause-counts
returns-in_err-rename-clause-counts g c = error_counted _ _ _ c.from_residual-in_err-rename.result _ c.from_residual-in_err-rename.ensures.1 (later_counted _ _ _ _ _ (one_counted _ _ _ _ _ c.in_ok-sync_all_names.ensures.counts) (one_counted _ _ _ _ _ c.in_err-rename.ensures.counts))

pub returns-in_err-sync_all_names-clause-proper : goal.returns-in_err-sync_all_names-clause-proper
returns-in_err-sync_all_names-clause-proper g c = on_observable (g.T.Tree.history c.args.tree.now) _ (λ v rest is may. proper_now IsAny _ _ _ _ (any_now _ v rest is) c.in_err-sync_all_names.ensures.counts (λ w q. tt))

pub returns-clause-counts : goal.returns-clause-counts
returns-clause-counts g c = later_counted _ _ _ _ c.sync_all_names-2.result (one_counted _ _ _ _ _ c.in_ok-sync_all_names.ensures.counts) (later_counted _ _ _ _ c.sync_all_names-2.result (one_counted _ _ _ _ _ c.in_ok-rename.ensures.counts) (one_counted _ _ _ _ _ c.sync_all_names-2.ensures.counts))
