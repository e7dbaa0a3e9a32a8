use Rattle.std.proofs.Common.{◌∙◌}
use Rattle.journal_core.proofs.Chain.{IsAny, any_now, proper_now}
use Rattle.journal_core.proofs.History.{observable_at, on_observable}
use Rattle.journal_core.proofs.Images.{crash_laws}
use Rattle.journal_commit.proofs.NewFilePieces.{created_called, created_only, created_proper, removed_only}
use Rattle.journal_commit.proofs.new_file.create_anew.Goals as goal

pub returns-in_err-remove-clause-only : goal.returns-in_err-remove-clause-only
returns-in_err-remove-clause-only g c = removed_only crash_laws c.args.name.now _ _ c.remove.result c.remove.ensures.moves

pub returns-clause-only : goal.returns-clause-only
returns-clause-only g c =
    created_only crash_laws c.args.name.now _ _ _ (g.met.T.Tree.whole c.remove.new.tree) c.in_ok-remove.ensures.moves _ c.create.result c.create.ensures.moves

pub returns-clause-begun : goal.returns-clause-begun
returns-clause-begun g c =
    created_called crash_laws c.args.name.now _ _ _ (g.met.T.Tree.whole c.remove.new.tree) c.in_ok-remove.ensures.moves _ c.create.result c.create.ensures.moves

pub returns-clause-proper : goal.returns-clause-proper
returns-clause-proper g c =
    on_observable (g.T.Tree.history c.args.tree.now) _ (λ v rest is room.
    observable_at _ v rest is _ (created_proper crash_laws c.args.name.now _ _ _ (g.met.T.Tree.whole c.remove.new.tree) c.in_ok-remove.ensures.moves
    (g.T.Tree.history c.create.new.tree) c.create.result _ _ c.create.ensures.counts) room
    ∙ proper_now IsAny _ _ _ _ (any_now _ v rest is) c.in_ok-remove.ensures.counts (λ w q. tt))
