use Rattle.std.proofs.Common.{◌≡◌, ◌+◌, ◌<◌, ◌∷◌, [], true, ap, length, refl, subst, sym}
use Rattle.journal_core.specs.Recovery.{stage_name}
use Rattle.journal_core.specs.Staged.{Staging}
use Rattle.journal_core.proofs.Counted.{done_counted, error_counted, if_failed, later_counted, on_error, one_counted}
use Rattle.journal_core.proofs.History.{on_observable}
use Rattle.journal_core.proofs.Filed.{begin_moments, begin_staged, begin_proper, both_moments, both_others, both_proper, both_staged, first_only, first_only_proper, first_others}
use Rattle.journal_core.proofs.Keeping.{create_keeps}
use Rattle.journal_core.proofs.Maps.{create_maps, maps_at, maps_more, maps_on}
use Rattle.journal_core.proofs.Images.{crash_laws}
use Rattle.journal_core.proofs.stage.Stage.file_begin.Goals as goal

pub returns-in_err-sync_before_first-clause-moments : goal.returns-in_err-sync_before_first-clause-moments
returns-in_err-sync_before_first-clause-moments g c = first_only c.args.self.now _ _ c.sync_before_first.ensures.moments

pub returns-in_err-sync_before_first-clause-others : goal.returns-in_err-sync_before_first-clause-others
returns-in_err-sync_before_first-clause-others g c = first_others (λ q. q ≡ stage_name (c.args.self.now.staged + 1)) _ _ c.sync_before_first.ensures.reads

pub returns-in_err-sync_before_first-clause-maps : goal.returns-in_err-sync_before_first-clause-maps
returns-in_err-sync_before_first-clause-maps g c = maps_more (stage_name (c.args.self.now.staged + 1)) [] _ _ c.sync_before_first.ensures.maps

pub returns-in_err-sync_before_first-clause-proper : goal.returns-in_err-sync_before_first-clause-proper
returns-in_err-sync_before_first-clause-proper g c = first_only_proper c.args.self.now _ _ _ c.sync_before_first.ensures.proper

pub returns-in_err-create-clause-moments : goal.returns-in_err-create-clause-moments
returns-in_err-create-clause-moments g c =
    both_moments c.args.self.now _ _ _ c.sync_before_first.ensures.moments c.in_ok-sync_before_first.ensures.staged
    (begin_moments crash_laws _ _ _ _ c.next_name.ensures _ c.in_err-create.ensures.moves (g.met.T.Tree.whole c.sync_before_first.new.tree))

pub returns-in_err-create-clause-others : goal.returns-in_err-create-clause-others
returns-in_err-create-clause-others g c =
    both_others c.args.self.now _ _ _ (λ q. q ≡ stage_name (c.args.self.now.staged + 1)) c.sync_before_first.ensures.reads
    (create_keeps _ _ _ _ c.next_name.ensures.is _ c.in_err-create.ensures.moves (g.met.T.Tree.whole c.sync_before_first.new.tree))

pub returns-in_err-create-clause-proper : goal.returns-in_err-create-clause-proper
returns-in_err-create-clause-proper g c =
    both_proper c.args.self.now _ _ (g.T.Tree.history c.args.tree.now) _ _ _ c.sync_before_first.ensures.proper c.in_ok-sync_before_first.ensures.staged
    (begin_proper crash_laws _ (g.T.Tree.history c.args.tree.now) _ _ c.next_name.ensures _ _ _ c.in_err-create.ensures.counts)

pub returns-in_err-create-clause-maps : goal.returns-in_err-create-clause-maps
returns-in_err-create-clause-maps g c =
    maps_on (stage_name (c.args.self.now.staged + 1) ∷ []) _ _ _ (maps_more (stage_name (c.args.self.now.staged + 1)) [] _ _ c.sync_before_first.ensures.maps)
    (maps_at _ _ c.next_name.ensures.is _ _ (create_maps _ _ _ _ c.in_err-create.ensures.moves))

pub returns-clause-moments : goal.returns-clause-moments
returns-clause-moments g c =
    both_moments c.args.self.now _ _ _ c.sync_before_first.ensures.moments c.in_ok-sync_before_first.ensures.staged
    (begin_moments crash_laws _ _ _ _ c.next_name.ensures _ c.in_ok-create.ensures.moves (g.met.T.Tree.whole c.sync_before_first.new.tree))

pub returns-clause-others : goal.returns-clause-others
returns-clause-others g c =
    both_others c.args.self.now _ _ _ (λ q. q ≡ stage_name (c.args.self.now.staged + 1)) c.sync_before_first.ensures.reads
    (create_keeps _ _ _ _ c.next_name.ensures.is _ c.in_ok-create.ensures.moves (g.met.T.Tree.whole c.sync_before_first.new.tree))

pub returns-clause-staged : goal.returns-clause-staged
returns-clause-staged g c =
    both_staged c.args.self.now _ _ _ _ c.in_ok-sync_before_first.ensures.staged
    (begin_staged crash_laws _ _ _ _ _ c.next_name.ensures _ c.in_ok-create.ensures.moves (g.met.T.Tree.whole c.sync_before_first.new.tree) (ap (λ (s : Staging). s.staged) c.self.view_is))

pub returns-clause-maps : goal.returns-clause-maps
returns-clause-maps g c =
    maps_on (stage_name (c.args.self.now.staged + 1) ∷ []) _ _ _ (maps_more (stage_name (c.args.self.now.staged + 1)) [] _ _ c.sync_before_first.ensures.maps)
    (maps_at _ _ c.next_name.ensures.is _ _ (create_maps _ _ _ _ c.in_ok-create.ensures.moves))

pub returns-clause-proper : goal.returns-clause-proper
returns-clause-proper g c =
    both_proper c.args.self.now _ _ (g.T.Tree.history c.args.tree.now) _ _ _ c.sync_before_first.ensures.proper c.in_ok-sync_before_first.ensures.staged
    (begin_proper crash_laws _ (g.T.Tree.history c.args.tree.now) _ _ c.next_name.ensures _ _ _ c.in_ok-create.ensures.counts)

pub returns-in_err-sync_before_first-clause-staged : goal.returns-in_err-sync_before_first-clause-staged
returns-in_err-sync_before_first-clause-staged g c = on_observable (g.T.Tree.history c.args.tree.now) _ (λ v rest is contents base staged. if_failed c.from_residual.result _ _ c.from_residual.ensures.1)

pub returns-in_err-sync_before_first-clause-view : goal.returns-in_err-sync_before_first-clause-view
returns-in_err-sync_before_first-clause-view g c = if_failed c.from_residual.result _ _ c.from_residual.ensures.1

pub returns-in_err-sync_before_first-clause-err : goal.returns-in_err-sync_before_first-clause-err
returns-in_err-sync_before_first-clause-err g c = on_error c.from_residual.result _ refl

pub returns-in_err-create-clause-staged : goal.returns-in_err-create-clause-staged
returns-in_err-create-clause-staged g c = on_observable (g.T.Tree.history c.args.tree.now) _ (λ v rest is contents base staged. if_failed c.from_residual-in_err-create.result _ _ c.from_residual-in_err-create.ensures.1)

pub returns-in_err-create-clause-view : goal.returns-in_err-create-clause-view
returns-in_err-create-clause-view g c = if_failed c.from_residual-in_err-create.result _ _ c.from_residual-in_err-create.ensures.1

pub returns-in_err-create-clause-err : goal.returns-in_err-create-clause-err
returns-in_err-create-clause-err g c = on_error c.from_residual-in_err-create.result _ refl

pub returns-in_err-sync_before_first-clause-counts : goal.returns-in_err-sync_before_first-clause-counts
returns-in_err-sync_before_first-clause-counts g c = error_counted _ _ _ c.from_residual.result _ c.from_residual.ensures.1 c.in_err-sync_before_first.ensures.counts

pub returns-in_err-create-clause-counts : goal.returns-in_err-create-clause-counts
returns-in_err-create-clause-counts g c = error_counted _ _ _ c.from_residual-in_err-create.result _ c.from_residual-in_err-create.ensures.1 (later_counted _ _ _ _ _ c.in_ok-sync_before_first.ensures.counts (one_counted _ _ _ _ _ c.in_err-create.ensures.counts))

pub next_name-requires : goal.next_name-requires
next_name-requires g c = c.requires.more

pub invariant_of-self : goal.invariant_of-self
invariant_of-self g c = λ begun. subst (λ (s : Staging). s.staged < length s.intent.writes) (sym c.self.view_is) c.requires.more

pub returns-clause-view : goal.returns-clause-view
returns-clause-view g c = ap (λ (s : Staging). record s { is_open = true }) c.self.view_is

pub returns-clause-counts : goal.returns-clause-counts
returns-clause-counts g c = done_counted _ _ _ _ (later_counted _ _ _ _ _ c.in_ok-sync_before_first.ensures.counts (one_counted _ _ _ _ _ c.in_ok-create.ensures.counts))
