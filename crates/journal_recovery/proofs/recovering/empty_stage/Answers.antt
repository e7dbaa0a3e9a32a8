use Rattle.std.proofs.Common.{refl}
use Rattle.base_core.specs.declared.tree.TreeFault.{TreeFault}
use Rattle.journal_core.proofs.Counted.{later_counted}
use Rattle.journal_core.proofs.History.{on_observable}
use Rattle.journal_recovery.proofs.Counted.{disk_counted, disk_is_other, listing_counted, memory_counted, memory_is_other, no_ok, proper_then, recovery_counted, tree_is_other}
use Rattle.journal_recovery.proofs.Emptying.{emptying_done, emptying_fails, emptying_stops}
use Rattle.journal_recovery.proofs.recovering.empty_stage.Goals as goal

pub returns-in_err-folder-clause-stage : goal.returns-in_err-folder-clause-stage
returns-in_err-folder-clause-stage g c = emptying_stops _ _ refl _ (no_ok c.from_residual.result _ c.from_residual.ensures.1)

pub returns-in_err-names-clause-stage : goal.returns-in_err-names-clause-stage
returns-in_err-names-clause-stage g c = emptying_stops _ _ c.list.ensures.same _ (no_ok c.from_residual-in_err-names.result _ c.from_residual-in_err-names.ensures.1)

pub returns-in_err-clear_all-clause-stage : goal.returns-in_err-clear_all-clause-stage
returns-in_err-clear_all-clause-stage g c =
    emptying_fails _ _ c.in_ok-folder.ensures _ _ _ c.list.ensures.same c.in_ok-names.ensures.value c.in_ok-names.ensures.order c.clear_all.ensures.moments _ c.clear_all.ensures.removal _ (no_ok c.from_residual-in_err-clear_all.result _ c.from_residual-in_err-clear_all.ensures.1)

pub returns-clause-stage : goal.returns-clause-stage
returns-clause-stage g c =
    emptying_done _ _ c.in_ok-folder.ensures _ _ _ c.list.ensures.same c.in_ok-names.ensures.value c.in_ok-names.ensures.order c.clear_all.ensures.moments _ c.in_ok-clear_all.ensures.removal _

pub returns-in_err-folder-clause-counts : goal.returns-in_err-folder-clause-counts
returns-in_err-folder-clause-counts g c = memory_counted _ c.from_residual.result c.from_residual.ensures.1

pub returns-in_err-folder-clause-only : goal.returns-in_err-folder-clause-only
returns-in_err-folder-clause-only g c = λ cause failed. (memory_is_other c.from_residual.result c.from_residual.ensures.1).other cause failed

pub returns-in_err-folder-clause-proper : goal.returns-in_err-folder-clause-proper
returns-in_err-folder-clause-proper g c = on_observable (g.T.Tree.history c.args.tree.now) _ (λ v rest is. refl)

pub returns-in_err-names-clause-counts : goal.returns-in_err-names-clause-counts
returns-in_err-names-clause-counts g c =
    let r = c.from_residual-in_err-names in
    listing_counted _ _ _ r.result r.ensures.1 c.list.ensures.goes_on c.in_err-names.ensures.disk c.in_err-names.ensures.memory

pub returns-in_err-names-clause-only : goal.returns-in_err-names-clause-only
returns-in_err-names-clause-only g c =
    let r = c.from_residual-in_err-names in
    λ cause failed. (tree_is_other _ r.result r.ensures.1).other cause failed

pub returns-in_err-names-clause-proper : goal.returns-in_err-names-clause-proper
returns-in_err-names-clause-proper g c = on_observable (g.T.Tree.history c.args.tree.now) _ (λ v rest is. c.list.ensures.proper)

pub returns-in_err-clear_all-clause-counts : goal.returns-in_err-clear_all-clause-counts
returns-in_err-clear_all-clause-counts g c =
    let r = c.from_residual-in_err-clear_all in
    disk_counted _ _ _ r.result r.ensures.1
    (later_counted {E = TreeFault} _ _ _ c.in_ok-names.names _ (record { goes_on = c.list.ensures.goes_on; cause = tt; kept = c.in_ok-names.ensures.kept }) c.in_err-clear_all.ensures.counts)

pub returns-in_err-clear_all-clause-only : goal.returns-in_err-clear_all-clause-only
returns-in_err-clear_all-clause-only g c =
    let r = c.from_residual-in_err-clear_all in
    λ cause failed. (disk_is_other r.result r.ensures.1).other cause failed

pub returns-in_err-clear_all-clause-proper : goal.returns-in_err-clear_all-clause-proper
returns-in_err-clear_all-clause-proper g c = proper_then _ _ _ _ _ c.list.ensures.same c.list.ensures.proper c.clear_all.ensures.proper

pub returns-clause-counts : goal.returns-clause-counts
returns-clause-counts g c =
    recovery_counted _ _ _ _
    (later_counted {E = TreeFault} _ _ _ c.in_ok-names.names _ (record { goes_on = c.list.ensures.goes_on; cause = tt; kept = c.in_ok-names.ensures.kept }) c.in_ok-clear_all.ensures.counts)

pub returns-clause-proper : goal.returns-clause-proper
returns-clause-proper g c = proper_then _ _ _ _ _ c.list.ensures.same c.list.ensures.proper c.clear_all.ensures.proper
