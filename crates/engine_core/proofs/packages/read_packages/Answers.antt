use Rattle.change_report.specs.change_inputs.declared.root.Refused.TheVariants.{Memory}
use Rattle.engine_core.specs.SelectionSeen.{inputs_of_selection}
use Rattle.engine_core.proofs.Made.{Read, few_candidates, not_read, read_all, read_refused}
use Rattle.engine_core.proofs.PlanSteps.{reads_done, reads_fail}
use Rattle.engine_core.proofs.SelectedRuns.{with_error}
use Rattle.base_core.specs.Read.{OnlyReads}
use Rattle.change_report.specs.change_inputs.declared.root.Refused.TheVariants as Commands
use Rattle.std.proofs.Common.{refl}
use Rattle.engine_core.proofs.packages.read_packages.Goals as goal

pub returns-in_err-names-clause-found : goal.returns-in_err-names-clause-found
returns-in_err-names-clause-found g c =
    let s = c.args.selection.now in
    with_error (Read (g.T.Tree.history c.args.tree.now) s) c.from_residual.result Memory c.from_residual.ensures.1 (not_read s c.requires.database (g.T.Tree.history c.args.tree.now))

pub returns-in_err-arrivals-clause-found : goal.returns-in_err-arrivals-clause-found
returns-in_err-arrivals-clause-found g c =
    let s = c.args.selection.now in
    with_error (Read (g.T.Tree.history c.args.tree.now) s) c.from_residual-in_err-arrivals.result _ c.from_residual-in_err-arrivals.ensures.1
    (read_refused s c.requires.database (g.T.Tree.history c.args.tree.now) _ c.repositories.ensures _ c.flags-no_scripts.ensures.value _
    (c.in_err-arrivals.ensures.found s.trace s.again c.in_ok-names.ensures))

pub returns-in_err-arrivals-clause-tree : goal.returns-in_err-arrivals-clause-tree
returns-in_err-arrivals-clause-tree g c =
    with_error (OnlyReads Commands.Disk _ _ _ _) c.from_residual-in_err-arrivals.result _ c.from_residual-in_err-arrivals.ensures.1
    (reads_fail _ _ _ _ _ c.in_err-arrivals.ensures.tree)

pub returns-clause-found : goal.returns-clause-found
returns-clause-found g c =
    let s = c.args.selection.now in
    read_all s c.requires.database (g.T.Tree.history c.args.tree.now) _ c.repositories.ensures _ c.flags-no_scripts.ensures.value
    (record { selection = c.args.selection; names = c.in_ok-names.names; arrivals = c.in_ok-arrivals.arrivals }) refl c.in_ok-names.ensures
    (c.in_ok-arrivals.ensures.found s.trace s.again c.in_ok-names.ensures)

pub returns-clause-members : goal.returns-clause-members
returns-clause-members g c =
    let s = c.args.selection.now in
    c.in_ok-arrivals.ensures.members s.trace s.again c.in_ok-names.ensures (few_candidates s.command.now (inputs_of_selection s) s.pool c.requires.pool)

pub returns-clause-tree : goal.returns-clause-tree
returns-clause-tree g c = reads_done _ _ _ _ c.in_ok-arrivals.arrivals _ c.in_ok-arrivals.ensures.tree
