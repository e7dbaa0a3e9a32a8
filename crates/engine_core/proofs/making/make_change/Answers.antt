use Rattle.std.proofs.Common.{◌≡◌, ◌∙◌, sym, subst, Ok, Result}
use Rattle.change_report.specs.change_outcome.ChangeOutcome.{ChangeDone}
use Rattle.engine_core.specs.ChangeRun.{IsEndOfRunOfWantedChange}
use Rattle.engine_core.specs.Runs.{IsRunCounted, IsRunOnSelection}
use Rattle.engine_core.specs.SelectionSeen.{selection_seen}
use Rattle.report_core.specs.declared.refusal.Refusal.{Refusal}
use Rattle.engine_core.specs.declared.rendering.NewRecords.{NewRecords}
use Rattle.engine_core.proofs.Carries.{entry_fits, large_database, large_entry}
use Rattle.engine_core.proofs.Counted.{counted_after, counted_error, counted_fault}
use Rattle.engine_core.proofs.Early.{HaveClash, only_read}
use Rattle.engine_core.proofs.Made.{arrived_run, found_by_reads, large_no_disk, no_disk, plan_is, plan_run, unarrived}
use Rattle.engine_core.proofs.SelectedRuns.{with_error}
use Rattle.engine_core.proofs.making.make_change.Goals as goal

pub returns-in_err-packages-clause-run : goal.returns-in_err-packages-clause-run
returns-in_err-packages-clause-run g c =
    let have : HaveClash = record { exists = c.a_change_has_a_first_clash_or_none.ensures.exists } in
    let s = c.args.selection.now in
    with_error (IsRunOnSelection s.command.now (Ok (selection_seen s)) _ _ _ _) c.from_residual.result _ c.from_residual.ensures.1
    (unarrived s c.requires.real _ _ _ _ (only_read _ _ _ _ _ _ c.in_err-packages.ensures.tree) have (g.met.T.Tree.whole c.args.tree.now) _ c.in_err-packages.ensures.found)

pub returns-in_err-packages-clause-counts : goal.returns-in_err-packages-clause-counts
returns-in_err-packages-clause-counts g c =
    with_error (IsRunCounted _ _) c.from_residual.result _ c.from_residual.ensures.1 (counted_error _ _ _ _ _ c.in_err-packages.ensures.tree)

pub plan_change-requires : goal.plan_change-requires
plan_change-requires g c = c.in_ok-packages.ensures.members

pub returns-in_err-plan-clause-run : goal.returns-in_err-plan-clause-run
returns-in_err-plan-clause-run g c =
    let s = c.args.selection.now in
    with_error (IsRunOnSelection s.command.now (Ok (selection_seen s)) _ _ _ _) c.from_residual-in_err-plan.result _ c.from_residual-in_err-plan.ensures.1
    (arrived_run s c.requires.real _ _ _ _ (only_read _ _ _ _ _ _ c.in_ok-packages.ensures.tree) c.requires.database c.requires.root c.in_ok-packages.packages c.in_ok-packages.ensures.found _ _ _
    (λ are. c.in_err-plan.ensures.refused _ _ are))

pub returns-in_err-plan-clause-counts : goal.returns-in_err-plan-clause-counts
returns-in_err-plan-clause-counts g c =
    with_error (IsRunCounted _ _) c.from_residual-in_err-plan.result _ c.from_residual-in_err-plan.ensures.1
    (counted_after _ _ _ _ c.in_ok-packages.ensures.tree.goes_on c.in_ok-packages.ensures.tree.kept c.counts_of_consecutive_calls_compose.ensures.cause_after
    (counted_error _ _ _ _ _ c.in_err-plan.ensures.tree))

pub returns-in_err-plan-clause-promised : goal.returns-in_err-plan-clause-promised
returns-in_err-plan-clause-promised g c = c.runs_with_accepted_targets_begin_with_reads.ensures.same _ _ (c.in_err-plan.ensures.tree.same ∙ c.in_ok-packages.ensures.tree.same)

pub returns-in_err-records-clause-run : goal.returns-in_err-records-clause-run
returns-in_err-records-clause-run g c =
    let s = c.args.selection.now in
    let p = c.in_ok-plan.plan in
    with_error (IsRunOnSelection s.command.now (Ok (selection_seen s)) _ _ _ _) c.from_residual-in_err-records.result _ c.from_residual-in_err-records.ensures.1
    (arrived_run s c.requires.real _ _ _ _ (only_read _ _ _ _ _ _ c.in_ok-packages.ensures.tree) c.requires.database c.requires.root c.in_ok-packages.packages c.in_ok-packages.ensures.found _ _ _
    (λ are. plan_run c.packages_that_were_read_are_those_found.ensures _ _ _ _ (only_read _ _ _ _ _ _ c.in_ok-plan.ensures.tree) c.in_ok-packages.packages p c.in_ok-plan.ensures.plan c.in_ok-packages.ensures.found.read _ are _ _ _
    (λ files planned. large_database _ p _ files planned _ _ c.in_err-records.ensures.told)))

pub returns-in_err-records-clause-counts : goal.returns-in_err-records-clause-counts
returns-in_err-records-clause-counts g c =
    with_error (IsRunCounted _ _) c.from_residual-in_err-records.result _ c.from_residual-in_err-records.ensures.1
    (counted_after _ _ _ _ c.in_ok-packages.ensures.tree.goes_on c.in_ok-packages.ensures.tree.kept c.counts_of_consecutive_calls_compose.ensures.cause_after
    (counted_fault _ _ _ _ c.in_ok-plan.plan _ (no_disk {A = NewRecords} (λ records. records.database.items) _ _ c.in_err-records.ensures.told) c.in_ok-plan.ensures.tree))

pub returns-in_err-records-clause-promised : goal.returns-in_err-records-clause-promised
returns-in_err-records-clause-promised g c = c.runs_with_accepted_targets_begin_with_reads.ensures.same _ _ (c.in_ok-plan.ensures.tree.same ∙ c.in_ok-packages.ensures.tree.same)

pub render-requires-clause-plan : goal.render-requires-clause-plan
render-requires-clause-plan g c =
    let s = c.args.selection.now in
    let are = found_by_reads s c.requires.real _ _ _ _ (only_read _ _ _ _ _ _ c.in_ok-packages.ensures.tree) c.requires.database c.requires.root c.in_ok-packages.packages c.in_ok-packages.ensures.found in
    let planned = plan_is c.packages_that_were_read_are_those_found.ensures _ _ _ _ (only_read _ _ _ _ _ _ c.in_ok-plan.ensures.tree) c.in_ok-packages.packages c.in_ok-plan.plan c.in_ok-plan.ensures.plan c.in_ok-packages.ensures.found.read _ are in
    (g.T.Tree.history c.plan_change.new.tree, (c.in_ok-packages.ensures.found.is.0, c.in_ok-plan.ensures.plan.files.lists.files, planned))

pub render-requires-clause-records : goal.render-requires-clause-records
render-requires-clause-records g c = c.in_ok-records.ensures.records

pub returns-in_err-rendered-clause-run : goal.returns-in_err-rendered-clause-run
returns-in_err-rendered-clause-run g c =
    let s = c.args.selection.now in
    let p = c.in_ok-plan.plan in
    with_error (IsRunOnSelection s.command.now (Ok (selection_seen s)) _ _ _ _) c.from_residual-in_err-rendered.result _ c.from_residual-in_err-rendered.ensures.1
    (arrived_run s c.requires.real _ _ _ _ (only_read _ _ _ _ _ _ c.in_ok-packages.ensures.tree) c.requires.database c.requires.root c.in_ok-packages.packages c.in_ok-packages.ensures.found _ _ _
    (λ are. plan_run c.packages_that_were_read_are_those_found.ensures _ _ _ _ (only_read _ _ _ _ _ _ c.in_ok-plan.ensures.tree) c.in_ok-packages.packages p c.in_ok-plan.ensures.plan c.in_ok-packages.ensures.found.read _ are _ _ _
    (λ files planned. large_entry _ p _ files planned c.in_ok-records.records c.in_ok-records.ensures.told _ _ c.in_err-rendered.ensures.refused)))

pub returns-in_err-rendered-clause-counts : goal.returns-in_err-rendered-clause-counts
returns-in_err-rendered-clause-counts g c =
    let s = c.args.selection.now in
    let are = found_by_reads s c.requires.real _ _ _ _ (only_read _ _ _ _ _ _ c.in_ok-packages.ensures.tree) c.requires.database c.requires.root c.in_ok-packages.packages c.in_ok-packages.ensures.found in
    let planned = plan_is c.packages_that_were_read_are_those_found.ensures _ _ _ _ (only_read _ _ _ _ _ _ c.in_ok-plan.ensures.tree) c.in_ok-packages.packages c.in_ok-plan.plan c.in_ok-plan.ensures.plan c.in_ok-packages.ensures.found.read _ are in
    with_error (IsRunCounted _ _) c.from_residual-in_err-rendered.result _ c.from_residual-in_err-rendered.ensures.1
    (counted_after _ _ _ _ c.in_ok-packages.ensures.tree.goes_on c.in_ok-packages.ensures.tree.kept c.counts_of_consecutive_calls_compose.ensures.cause_after
    (counted_fault _ _ _ _ c.in_ok-plan.plan _ (large_no_disk _ _ _ planned c.in_ok-records.records _ c.in_err-rendered.ensures.refused) c.in_ok-plan.ensures.tree))

pub returns-in_err-rendered-clause-promised : goal.returns-in_err-rendered-clause-promised
returns-in_err-rendered-clause-promised g c = c.runs_with_accepted_targets_begin_with_reads.ensures.same _ _ (c.in_ok-plan.ensures.tree.same ∙ c.in_ok-packages.ensures.tree.same)

pub commit-requires : goal.commit-requires
commit-requires g c =
    let s = c.args.selection.now in
    let are = found_by_reads s c.requires.real _ _ _ _ (only_read _ _ _ _ _ _ c.in_ok-packages.ensures.tree) c.requires.database c.requires.root c.in_ok-packages.packages c.in_ok-packages.ensures.found in
    record {
      found = c.in_ok-packages.ensures.found.is.0;
      files = c.in_ok-plan.ensures.plan.files.lists.files;
      planned = plan_is c.packages_that_were_read_are_those_found.ensures _ _ _ _ (only_read _ _ _ _ _ _ c.in_ok-plan.ensures.tree) c.in_ok-packages.packages c.in_ok-plan.plan c.in_ok-plan.ensures.plan c.in_ok-packages.ensures.found.read _ are;
      records = c.in_ok-records.records;
      own = c.in_ok-records.ensures.records;
      rendered = c.in_ok-rendered.ensures.rendered;
    }

pub returns-clause-run : goal.returns-clause-run
returns-clause-run g c =
    let s = c.args.selection.now in
    let p = c.in_ok-plan.plan in
    arrived_run s c.requires.real _ _ _ _ (only_read _ _ _ _ _ _ c.in_ok-packages.ensures.tree) c.requires.database c.requires.root c.in_ok-packages.packages c.in_ok-packages.ensures.found _ _ c.commit.result
    (λ are. plan_run c.packages_that_were_read_are_those_found.ensures _ _ _ _ (only_read _ _ _ _ _ _ c.in_ok-plan.ensures.tree) c.in_ok-packages.packages p c.in_ok-plan.ensures.plan c.in_ok-packages.ensures.found.read _ are _ _ c.commit.result
    (λ files planned.
    subst (λ (w : Result ChangeDone Refusal). IsEndOfRunOfWantedChange (Ok c.in_ok-packages.ensures.found.is.0) w (g.T.Tree.history c.plan_change.new.tree) (g.T.Tree.history c.commit.new.tree) (g.T.Tree.counts c.plan_change.new.tree) (g.T.Tree.counts c.commit.new.tree) c.commit.result)
    (sym (entry_fits _ p _ files planned c.in_ok-records.records c.in_ok-records.ensures.told c.in_ok-records.ensures.records c.in_ok-rendered.rendered c.in_ok-rendered.ensures.rendered))
    (c.commit.ensures.comes (record {
      found = c.in_ok-packages.ensures.found.is.0;
      files = files;
      planned = planned;
      records = c.in_ok-records.records;
      own = c.in_ok-records.ensures.records;
      rendered = c.in_ok-rendered.ensures.rendered;
    }))))

pub returns-clause-counts : goal.returns-clause-counts
returns-clause-counts g c =
    counted_after _ _ _ c.commit.result c.in_ok-packages.ensures.tree.goes_on c.in_ok-packages.ensures.tree.kept c.counts_of_consecutive_calls_compose.ensures.cause_after
    (counted_after _ _ _ c.commit.result c.in_ok-plan.ensures.tree.goes_on c.in_ok-plan.ensures.tree.kept c.counts_of_consecutive_calls_compose.ensures.cause_after c.commit.ensures.counts)

pub returns-clause-promised : goal.returns-clause-promised
returns-clause-promised g c =
    c.runs_with_accepted_targets_begin_with_reads.ensures.later _ _ _ (c.in_ok-plan.ensures.tree.same ∙ c.in_ok-packages.ensures.tree.same) c.commit.ensures.promised
