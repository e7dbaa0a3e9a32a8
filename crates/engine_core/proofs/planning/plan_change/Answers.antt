use Rattle.std.proofs.Common.{◌≡◌, ◌∙◌, List, Ok, Err, refl, subst, true}
use Rattle.std.specs.Prelude.{IfErr}
use Rattle.base_core.specs.Read.{OnlyReads}
use Rattle.change_report.specs.change_inputs.declared.root.Refused.{Refused}
use Rattle.change_report.specs.change_inputs.declared.root.Refused.TheVariants as Commands
use Rattle.change_report.specs.change_inputs.declared.root.Refused.TheVariants.{Memory}
use Rattle.change_report.specs.change_outcome.MembersAfter.{MemberFound}
use Rattle.change_report.specs.make_info.Reads.{Reads}
use Rattle.change_report.specs.Due.{planned_paths}
use Rattle.change_report.specs.change_outcome.Triggers.{unless_trigger_due}
use Rattle.change_report.specs.db_core.Seen.{members_of}
use Rattle.command_core.specs.declared.command.Flags.{Flags}
use Rattle.engine_core.specs.Plans.{HasNoPlan, IsPlanFrom}
use Rattle.engine_core.specs.Preparing.{ArePackagesFoundByReads, inputs_of_packages, replacement_of_packages, wishes_of_packages}
use Rattle.engine_core.specs.Runs.{IsRunOnFoundPackages}
use Rattle.engine_core.proofs.Counted.{memory_no_disk}
use Rattle.engine_core.proofs.Early.{HaveClash, nothing_read, only_read}
use Rattle.engine_core.proofs.Found.{found_failure, has_arrived, unplanned_step}
use Rattle.engine_core.proofs.Made.{no_disk, untriggered}
use Rattle.engine_core.proofs.PlanSteps.{reads_done, reads_end, reads_fail}
use Rattle.engine_core.proofs.SelectedRuns.{with_error}
use Rattle.engine_core.proofs.planning.plan_change.Goals as goal

pub returns-in_err-members-clause-refused : goal.returns-in_err-members-clause-refused
returns-in_err-members-clause-refused g c =
    let have : HaveClash = record { exists = c.a_change_has_a_first_clash_or_none.ensures.exists } in
    let a = c.args.packages.now in
    let h = g.T.Tree.history c.args.tree.now in
    let n = g.T.Tree.counts c.args.tree.now in
    with_error (λ r. IfErr r (λ refused. (read : Reads) (found : List MemberFound) → ArePackagesFoundByReads h a read found
    → IsRunOnFoundPackages (inputs_of_packages a) (replacement_of_packages a) (wishes_of_packages a) found h h n n (Err refused))) c.from_residual.result Memory c.from_residual.ensures.1
    (λ read found are. found_failure have (inputs_of_packages a) (replacement_of_packages a) (wishes_of_packages a) read found are.is h h n n (g.met.T.Tree.whole c.args.tree.now) (nothing_read h n) Memory tt)

pub returns-in_err-files-clause-refused : goal.returns-in_err-files-clause-refused
returns-in_err-files-clause-refused g c =
    let have : HaveClash = record { exists = c.a_change_has_a_first_clash_or_none.ensures.exists } in
    let a = c.args.packages.now in
    let h = g.T.Tree.history c.args.tree.now in
    let now = g.T.Tree.history c.plan_files.new.tree in
    let n = g.T.Tree.counts c.args.tree.now in
    let after = g.T.Tree.counts c.plan_files.new.tree in
    let why = subst (λ (f : Flags). HasNoPlan h f.purge a.selection.now.db c.in_ok-members.members c.in_err-files.field-0.0) c.flags-flags.ensures.value c.in_err-files.ensures.refused in
    with_error (λ r. IfErr r (λ refused. (read : Reads) (found : List MemberFound) → ArePackagesFoundByReads h a read found
    → IsRunOnFoundPackages (inputs_of_packages a) (replacement_of_packages a) (wishes_of_packages a) found h now n after (Err refused))) c.from_residual-in_err-files.result _ c.from_residual-in_err-files.ensures.1
    (λ read found are. unplanned_step have h now n after a c.in_ok-members.members (wishes_of_packages a) read found _ why (g.met.T.Tree.whole c.args.tree.now)
    (only_read _ _ _ _ _ _ c.in_err-files.ensures.tree)
    (has_arrived h a c.in_ok-members.members found (c.in_ok-members.ensures ∙ c.packages_that_were_read_are_those_found.ensures _ _ _ _ are.arrivals.read) are.arrivals) are.is)

pub returns-in_err-files-clause-tree : goal.returns-in_err-files-clause-tree
returns-in_err-files-clause-tree g c =
    with_error (OnlyReads Commands.Disk _ _ _ _) c.from_residual-in_err-files.result _ c.from_residual-in_err-files.ensures.1
    (reads_fail _ _ _ _ _ c.in_err-files.ensures.tree)

pub returns-in_err-test_triggers-clause-refused : goal.returns-in_err-test_triggers-clause-refused
returns-in_err-test_triggers-clause-refused g c =
    let a = c.args.packages.now in
    let h = g.T.Tree.history c.args.tree.now in
    let now = g.T.Tree.history c.plan_files.new.tree in
    let n = g.T.Tree.counts c.args.tree.now in
    let after = g.T.Tree.counts c.plan_files.new.tree in
    let files = subst (λ (f : Flags). IsPlanFrom h f.purge a.selection.now.db c.in_ok-members.members c.in_ok-files.files) c.flags-flags.ensures.value c.in_ok-files.ensures.plan in
    with_error (λ r. IfErr r (λ refused. (read : Reads) (found : List MemberFound) → ArePackagesFoundByReads h a read found
    → IsRunOnFoundPackages (inputs_of_packages a) (replacement_of_packages a) (wishes_of_packages a) found h now n after (Err refused))) c.from_residual-in_err-test_triggers.result _ c.from_residual-in_err-test_triggers.ensures.1
    (λ read found are.
    untriggered c.packages_that_were_read_are_those_found.ensures h now n after (only_read _ _ _ _ _ _ c.in_ok-files.ensures.tree)
    (record { packages = c.args.packages; members = c.in_ok-members.members; files = c.in_ok-files.files }) files c.in_ok-members.ensures found are.arrivals _ c.flags-flags.result c.flags-flags.ensures.value c.in_err-test_triggers.ensures)

pub returns-in_err-test_triggers-clause-tree : goal.returns-in_err-test_triggers-clause-tree
returns-in_err-test_triggers-clause-tree g c =
    with_error (OnlyReads Commands.Disk _ _ _ _) c.from_residual-in_err-test_triggers.result _ c.from_residual-in_err-test_triggers.ensures.1
    (reads_end _ _ _ _ c.in_ok-files.files _ (no_disk {A = Unit {0}} (λ _. true) _ _ c.in_err-test_triggers.ensures) c.in_ok-files.ensures.tree)

pub returns-clause-plan : goal.returns-clause-plan
returns-clause-plan g c =
    let a = c.args.packages.now in
    let h = g.T.Tree.history c.args.tree.now in
    record {
      packages = refl;
      members = c.in_ok-members.ensures;
      files = subst (λ (f : Flags). IsPlanFrom h f.purge a.selection.now.db c.in_ok-members.members c.in_ok-files.files) c.flags-flags.ensures.value c.in_ok-files.ensures.plan;
      triggers = subst (λ (f : Flags). unless_trigger_due f.no_scripts (planned_paths c.in_ok-files.files) (members_of c.in_ok-members.members) ≡ Ok true) c.flags-flags.ensures.value c.in_ok-test_triggers.ensures;
    }

pub returns-clause-tree : goal.returns-clause-tree
returns-clause-tree g c = reads_done _ _ _ _ c.in_ok-files.files _ c.in_ok-files.ensures.tree
