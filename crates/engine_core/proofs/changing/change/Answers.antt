use Rattle.std.proofs.Common.{◌∙◌, Ok, sym, ap, subst}
use Rattle.change_report.specs.change_inputs.Inputs.{Inputs}
use Rattle.change_report.specs.change_inputs.Seen.{inputs_seen}
use Rattle.change_report.specs.change_inputs.declared.root.Refused.TheVariants.{Memory}
use Rattle.change_report.specs.package_changes.Report.{simulated_report}
use Rattle.command_core.specs.Command.{CommandLine}
use Rattle.command_core.specs.declared.command.Flags.{Flags}
use Rattle.engine_core.specs.ChangeRun.{IsChangeRun}
use Rattle.engine_core.specs.Preparing.{IsRootRead}
use Rattle.engine_core.specs.Runs.{IsRunCounted, IsRunOnSelection}
use Rattle.engine_core.specs.SelectionSeen.{replacement_seen, selection_seen}
use Rattle.engine_core.specs.Wishes.{names_to_remove}
use Rattle.engine_core.proofs.Counted.{counted_after, counted_error, counted_fault, counted_report, memory_no_disk}
use Rattle.engine_core.proofs.Early.{HaveClash, nothing_read, only_read, selected_failure}
use Rattle.engine_core.proofs.SelectedRuns.{not_disk, run_failure, selected_run, simulated_run, unselected_run, with_error}
use Rattle.engine_core.proofs.WholeRuns.{HaveOwnReads, joined, root_read, unread}
use Rattle.engine_core.proofs.changing.change.Goals as goal

pub returns-in_err-loaded-clause-run : goal.returns-in_err-loaded-clause-run
returns-in_err-loaded-clause-run g c =
    let have : HaveClash = record { exists = c.a_change_has_a_first_clash_or_none.ensures.exists } in
    with_error (IsChangeRun c.args.command.now _ _ _ _) c.from_residual.result _ c.from_residual.ensures.1
    (unread c.a_choice_exists.ensures have c.args.command.now _ _ _ _ (g.met.T.Tree.whole c.args.tree.now) (only_read _ _ _ _ _ _ c.in_err-loaded.ensures.tree) _ c.in_err-loaded.ensures.found)

pub returns-in_err-upgraded-clause-run : goal.returns-in_err-upgraded-clause-run
returns-in_err-upgraded-clause-run g c =
    let have : HaveClash = record { exists = c.a_change_has_a_first_clash_or_none.ensures.exists } in
    let own : HaveOwnReads = record { inputs = c.inputs_depend_on_their_own_reads.ensures; members = c.packages_after_a_change_depend_on_their_reads.ensures } in
    with_error (IsChangeRun c.args.command.now _ _ _ _) c.from_residual-in_err-upgraded.result Memory c.from_residual-in_err-upgraded.ensures.1
    (joined own c.args.command.now c.in_ok-loaded.loaded _ _ _ _ _ _ _ (only_read _ _ _ _ _ _ c.in_ok-loaded.ensures.tree) c.in_ok-loaded.ensures.found
    (run_failure c.args.command.now (inputs_seen c.in_ok-loaded.loaded) _ _ _ _ c.a_choice_exists.ensures have (g.met.T.Tree.whole c.read.new.tree) (nothing_read _ _) Memory tt))

pub returns-in_err-selection-clause-run : goal.returns-in_err-selection-clause-run
returns-in_err-selection-clause-run g c =
    let have : HaveClash = record { exists = c.a_change_has_a_first_clash_or_none.ensures.exists } in
    let own : HaveOwnReads = record { inputs = c.inputs_depend_on_their_own_reads.ensures; members = c.packages_after_a_change_depend_on_their_reads.ensures } in
    with_error (IsChangeRun c.args.command.now _ _ _ _) c.from_residual-in_err-selection.result _ c.from_residual-in_err-selection.ensures.1
    (joined own c.args.command.now c.in_ok-loaded.loaded _ _ _ _ _ _ _ (only_read _ _ _ _ _ _ c.in_ok-loaded.ensures.tree) c.in_ok-loaded.ensures.found
    (unselected_run c.args.command.now (inputs_seen c.in_ok-loaded.loaded) _ _ _ _ have (g.met.T.Tree.whole c.read.new.tree) (nothing_read _ _) _ c.in_err-selection.ensures.selected))

pub returns-in_err-report-clause-run : goal.returns-in_err-report-clause-run
returns-in_err-report-clause-run g c =
    let have : HaveClash = record { exists = c.a_change_has_a_first_clash_or_none.ensures.exists } in
    let own : HaveOwnReads = record { inputs = c.inputs_depend_on_their_own_reads.ensures; members = c.packages_after_a_change_depend_on_their_reads.ensures } in
    with_error (IsChangeRun c.args.command.now _ _ _ _) c.from_residual-in_err-report.result Memory c.from_residual-in_err-report.ensures.1
    (joined own c.args.command.now c.in_ok-loaded.loaded _ _ _ _ _ _ _ (only_read _ _ _ _ _ _ c.in_ok-loaded.ensures.tree) c.in_ok-loaded.ensures.found
    (selected_run c.args.command.now (inputs_seen c.in_ok-loaded.loaded) _ _ _ _ c.in_ok-selection.selection _ c.in_ok-selection.ensures.selected
    (selected_failure _ _ _ _ _ _ have (g.met.T.Tree.whole c.read.new.tree) (nothing_read _ _) Memory tt)))

pub returns-then-flags-clause-run : goal.returns-then-flags-clause-run
returns-then-flags-clause-run g c =
    let have : HaveClash = record { exists = c.a_change_has_a_first_clash_or_none.ensures.exists } in
    let own : HaveOwnReads = record { inputs = c.inputs_depend_on_their_own_reads.ensures; members = c.packages_after_a_change_depend_on_their_reads.ensures } in
    joined own c.args.command.now c.in_ok-loaded.loaded _ _ _ _ _ _ _ (only_read _ _ _ _ _ _ c.in_ok-loaded.ensures.tree) c.in_ok-loaded.ensures.found
    (selected_run c.args.command.now (inputs_seen c.in_ok-loaded.loaded) _ _ _ _ c.in_ok-selection.selection _ c.in_ok-selection.ensures.selected
    (simulated_run have c.args.command.now (selection_seen c.in_ok-selection.selection) _ _ _ _ _ (g.met.T.Tree.whole c.read.new.tree) (nothing_read _ _)
    (sym (ap (λ (f : Flags). f.simulate) c.flags.ensures.value) ∙ c.if-flags.true)
    (c.in_ok-report.ensures ∙ ap (λ (command : CommandLine). simulated_report (replacement_seen c.in_ok-selection.selection) (names_to_remove command.applet command.operands)) c.in_ok-selection.ensures.parts.command_is)))

pub returns-in_err-upgraded-clause-counts : goal.returns-in_err-upgraded-clause-counts
returns-in_err-upgraded-clause-counts g c =
    with_error (IsRunCounted _ _) c.from_residual-in_err-upgraded.result Memory c.from_residual-in_err-upgraded.ensures.1
    (counted_fault _ _ _ _ c.in_ok-loaded.loaded Memory memory_no_disk c.in_ok-loaded.ensures.tree)

pub returns-in_err-selection-clause-counts : goal.returns-in_err-selection-clause-counts
returns-in_err-selection-clause-counts g c =
    with_error (IsRunCounted _ _) c.from_residual-in_err-selection.result _ c.from_residual-in_err-selection.ensures.1
    (counted_fault _ _ _ _ c.in_ok-loaded.loaded _ (not_disk c.args.command.now (inputs_seen c.in_ok-loaded.loaded) _ c.in_err-selection.ensures.selected) c.in_ok-loaded.ensures.tree)

pub returns-in_err-report-clause-counts : goal.returns-in_err-report-clause-counts
returns-in_err-report-clause-counts g c =
    with_error (IsRunCounted _ _) c.from_residual-in_err-report.result Memory c.from_residual-in_err-report.ensures.1
    (counted_fault _ _ _ _ c.in_ok-loaded.loaded Memory memory_no_disk c.in_ok-loaded.ensures.tree)

pub returns-then-flags-clause-counts : goal.returns-then-flags-clause-counts
returns-then-flags-clause-counts g c = counted_report _ _ _ _ c.in_ok-loaded.loaded _ c.in_ok-loaded.ensures.tree

pub make_change-requires-clause-real : goal.make_change-requires-clause-real
make_change-requires-clause-real g c =
    ap (λ (command : CommandLine). command.flags.simulate) c.in_ok-selection.ensures.parts.command_is ∙ (sym (ap (λ (f : Flags). f.simulate) c.flags.ensures.value) ∙ c.if-flags.false)

pub make_change-requires-clause-root : goal.make_change-requires-clause-root
make_change-requires-clause-root g c =
    subst (λ (i : Inputs). IsRootRead (g.T.Tree.history c.read.new.tree) i) (sym c.in_ok-selection.ensures.parts.inputs_are)
    (root_read c.what_is_read_of_a_root_is_in_the_tree.ensures c.args.command.now (inputs_seen c.in_ok-loaded.loaded) _ _ c.in_ok-loaded.ensures.tree.same c.in_ok-loaded.ensures.found)

pub returns-clause-run : goal.returns-clause-run
returns-clause-run g c =
    let own : HaveOwnReads = record { inputs = c.inputs_depend_on_their_own_reads.ensures; members = c.packages_after_a_change_depend_on_their_reads.ensures } in
    joined own c.args.command.now c.in_ok-loaded.loaded _ _ _ _ _ _ c.make_change.result (only_read _ _ _ _ _ _ c.in_ok-loaded.ensures.tree) c.in_ok-loaded.ensures.found
    (selected_run c.args.command.now (inputs_seen c.in_ok-loaded.loaded) _ _ _ _ c.in_ok-selection.selection c.make_change.result c.in_ok-selection.ensures.selected
    (subst (λ (command : CommandLine). IsRunOnSelection command (Ok (selection_seen c.in_ok-selection.selection)) (g.T.Tree.history c.read.new.tree) (g.T.Tree.history c.make_change.new.tree) (g.T.Tree.counts c.read.new.tree) (g.T.Tree.counts c.make_change.new.tree) c.make_change.result) c.in_ok-selection.ensures.parts.command_is c.make_change.ensures.run))

pub returns-clause-counts : goal.returns-clause-counts
returns-clause-counts g c = counted_after _ _ _ c.make_change.result c.in_ok-loaded.ensures.tree.goes_on c.in_ok-loaded.ensures.tree.kept c.counts_of_consecutive_calls_compose.ensures.cause_after c.make_change.ensures.counts

pub returns-in_err-loaded-clause-counts : goal.returns-in_err-loaded-clause-counts
returns-in_err-loaded-clause-counts g c = with_error (IsRunCounted _ _) c.from_residual.result _ c.from_residual.ensures.1 (counted_error _ _ _ _ _ c.in_err-loaded.ensures.tree)

pub returns-in_err-loaded-clause-promised : goal.returns-in_err-loaded-clause-promised
returns-in_err-loaded-clause-promised g c = c.runs_with_accepted_targets_begin_with_reads.ensures.same _ _ c.in_err-loaded.ensures.tree.same

pub returns-in_err-upgraded-clause-promised : goal.returns-in_err-upgraded-clause-promised
returns-in_err-upgraded-clause-promised g c = c.runs_with_accepted_targets_begin_with_reads.ensures.same _ _ c.in_ok-loaded.ensures.tree.same

pub returns-in_err-selection-clause-promised : goal.returns-in_err-selection-clause-promised
returns-in_err-selection-clause-promised g c = c.runs_with_accepted_targets_begin_with_reads.ensures.same _ _ c.in_ok-loaded.ensures.tree.same

pub returns-in_err-report-clause-promised : goal.returns-in_err-report-clause-promised
returns-in_err-report-clause-promised g c = c.runs_with_accepted_targets_begin_with_reads.ensures.same _ _ c.in_ok-loaded.ensures.tree.same

pub returns-then-flags-clause-promised : goal.returns-then-flags-clause-promised
returns-then-flags-clause-promised g c = c.runs_with_accepted_targets_begin_with_reads.ensures.same _ _ c.in_ok-loaded.ensures.tree.same

pub choose-requires : goal.choose-requires
choose-requires g c = c.in_ok-upgraded.ensures

pub simulate-requires : goal.simulate-requires
simulate-requires g c = c.in_ok-selection.ensures.parts.database

pub make_change-requires-clause-database : goal.make_change-requires-clause-database
make_change-requires-clause-database g c = c.in_ok-selection.ensures.parts.database

pub make_change-requires-clause-pool : goal.make_change-requires-clause-pool
make_change-requires-clause-pool g c = c.in_ok-selection.ensures.parts.pool

pub returns-clause-promised : goal.returns-clause-promised
returns-clause-promised g c = c.runs_with_accepted_targets_begin_with_reads.ensures.later _ _ _ c.in_ok-loaded.ensures.tree.same c.make_change.ensures.promised
