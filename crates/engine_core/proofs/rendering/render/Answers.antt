use Rattle.std.proofs.Common.{◌≡◌, Bool, Option, Ok, List, ap, map, refl, sym, subst, true}
use Rattle.std.specs.Prelude.{IfErr, slice_get, Some}
use Rattle.change_outcome.specs.adb_write.Canonical.{counts_at_first_overflow}
use Rattle.change_report.specs.change_inputs.declared.root.Refused.TheVariants.{Memory}
use Rattle.change_report.specs.change_outcome.ChangeOutcome.{unless_overflow}
use Rattle.change_report.specs.db_core.Members.{Member}
use Rattle.change_report.specs.journal_core.Staged.{Staging}
use Rattle.change_report.specs.journal_intent.IntentValue.{intent_of_lists, value_of_intent}
use Rattle.journal_staging.specs.declared.writes.StagedWrite.{StagedWrite}
use Rattle.engine_core.specs.Rendering.{AreWritesOf, IsRefusedForOverflow, IsStageOf, removals_of_plan}
use Rattle.engine_core.specs.Writing.{name_of_write}
use Rattle.engine_core.proofs.Carries.{IsMadeReady, entry_large, same_told, written_once}
use Rattle.engine_core.proofs.SelectedRuns.{with_error}
use Rattle.engine_core.proofs.rendering.render.Goals as goal

pub writes_of-requires-clause-sources : goal.writes_of-requires-clause-sources
writes_of-requires-clause-sources c = c.requires.plan.1.2.sources

pub writes_of-requires-clause-packages : goal.writes_of-requires-clause-packages
writes_of-requires-clause-packages c = λ place m at comes.
    let planned = c.requires.plan.1.2 in
    c.a_package_that_was_read_is_that_of_its_file.ensures.comes _ _ _ c.requires.plan.1.0 planned.arrived.read.read place m
    (subst (λ (ms : List Member). slice_get ms place ≡ Some m) planned.arrived.members at) comes

pub writes_of-requires-clause-once : goal.writes_of-requires-clause-once
writes_of-requires-clause-once c =
    written_once c.requires.plan.0 c.args.plan.now c.requires.plan.1.0 c.requires.plan.1.1 c.requires.plan.1.2 c.args.records.now c.requires.records c.record_writes_of-record_writes.result c.record_writes_of-record_writes.ensures

pub returns-in_err-writes-clause-refused : goal.returns-in_err-writes-clause-refused
returns-in_err-writes-clause-refused c =
    with_error (λ r. IfErr r (IsRefusedForOverflow c.args.plan.now c.args.records.now)) c.from_residual.result Memory c.from_residual.ensures.1 (λ history found files planned. tt)

pub journal_entry-requires-clause-writes : goal.journal_entry-requires-clause-writes
journal_entry-requires-clause-writes c =
    let written : AreWritesOf c.args.plan.now c.args.records.now c.in_ok-writes.writes.items = record {
      of_records = c.record_writes_of-record_writes.result;
      which = c.record_writes_of-record_writes.ensures;
      names = c.in_ok-writes.ensures.names;
      each = c.in_ok-writes.ensures.each;
    } in
    (c.args.records.now, c.requires.records, subst (λ (ws : List StagedWrite). AreWritesOf c.args.plan.now c.args.records.now ws) (sym c.deref.ensures.value) written)

pub returns-in_err-stage-clause-refused : goal.returns-in_err-stage-clause-refused
returns-in_err-stage-clause-refused c =
    with_error (λ r. IfErr r (IsRefusedForOverflow c.args.plan.now c.args.records.now)) c.from_residual-in_err-stage.result _ c.from_residual-in_err-stage.ensures.1
    (λ history found files planned.
    let ready : IsMadeReady history c.args.plan.now found files c.args.records.now c.record_writes_of-record_writes.result c.in_ok-writes.writes.items (removals_of_plan c.args.plan.now) = record {
      plan = planned;
      own = c.requires.records;
      which = c.record_writes_of-record_writes.ensures;
      names = c.in_ok-writes.ensures.names;
      each = c.in_ok-writes.ensures.each;
      removed = refl;
    } in
    entry_large {A = Bool} (λ _. true) history c.args.plan.now found files c.args.records.now c.record_writes_of-record_writes.result c.in_ok-writes.writes.items (removals_of_plan c.args.plan.now) ready _
    (same_told {A = Option Staging} {B = Bool} (λ _. true) (λ _. true) _ (removals_of_plan c.args.plan.now) (map name_of_write c.deref.result.now) (removals_of_plan c.args.plan.now) (map name_of_write c.in_ok-writes.writes.items) refl (ap (map name_of_write) c.deref.ensures.value)
    c.in_err-stage.ensures.told))

pub returns-in_err-report-clause-refused : goal.returns-in_err-report-clause-refused
returns-in_err-report-clause-refused c =
    with_error (λ r. IfErr r (IsRefusedForOverflow c.args.plan.now c.args.records.now)) c.from_residual-in_err-report.result Memory c.from_residual-in_err-report.ensures.1 (λ history found files planned. tt)

pub returns-clause-rendered : goal.returns-clause-rendered
returns-clause-rendered c = record {
  written = record {
    of_records = c.record_writes_of-record_writes.result;
    which = c.record_writes_of-record_writes.ensures;
    names = c.in_ok-writes.ensures.names;
    each = c.in_ok-writes.ensures.each;
  };
  stage = subst (λ (ws : List StagedWrite). IsStageOf (removals_of_plan c.args.plan.now) (map name_of_write ws) c.in_ok-stage.stage) c.deref.ensures.value c.in_ok-stage.ensures.stage;
  fits = subst (λ (ws : List StagedWrite). unless_overflow (counts_at_first_overflow (value_of_intent (intent_of_lists (removals_of_plan c.args.plan.now) (map name_of_write ws)))) true ≡ Ok true) c.deref.ensures.value c.in_ok-stage.ensures.told;
  report = c.in_ok-report.ensures;
}
