use Rattle.base_core.specs.Listed.{AreSortedDistinctTexts}
use Rattle.std.proofs.Common.{◌≡◌, ◌∙◌, ◌++◌, All, Option, Ok, List, map, ap, sym, subst, true, false}
use Rattle.change_outcome.specs.adb_write.Canonical.{counts_at_first_overflow}
use Rattle.change_report.specs.own_core.PlanLists.{sorted_distinct_names}
use Rattle.change_report.specs.change_inputs.Answers.{Agrees}
use Rattle.change_report.specs.change_outcome.ChangeOutcome.{name_if_needed, unless_overflow}
use Rattle.change_report.specs.journal_core.Staged.{Staging, new_stage_of_removals_and_writes}
use Rattle.change_report.specs.journal_intent.IntentValue.{intent_of_lists, value_of_intent}
use Rattle.change_report.specs.own_core.Planned.{IsUnreservedName}
use Rattle.root_names.specs.RootNames.{text_database_name}
use Rattle.engine_core.specs.Rendering.{removals_of_plan}
use Rattle.engine_core.specs.Writing.{name_of_write}
use Rattle.engine_core.proofs.Carries.{IsMadeReady, idle_fits, may_be_changed, not_idle, once_reserved, same_told, text_once, text_reserved}
use Rattle.engine_core.proofs.SelectedRuns.{with_error}
use Rattle.engine_core.proofs.rendering.journal_entry.Goals as goal

pub removals_of-requires : goal.removals_of-requires
removals_of-requires c =
    let names = c.requires.plan.1.2.names in
    once_reserved c.removals.result.now (name_if_needed c.is_from_text.result text_database_name)
    (subst (All IsUnreservedName) (sym c.removals.ensures) names.removals) (subst AreSortedDistinctTexts (sym c.removals.ensures) names.removals_rise)
    (text_once c.is_from_text.result) (text_reserved c.is_from_text.result)

pub returns-then-is_idle-clause-stage : goal.returns-then-is_idle-clause-stage
returns-then-is_idle-clause-stage c =
    let removed : c.in_ok-removals.removals ≡ removals_of_plan c.args.plan.now = c.in_ok-removals.ensures ∙ (λ i. sorted_distinct_names (c.removals.ensures i ++ name_if_needed (c.is_from_text.ensures i) text_database_name)) in
    not_idle c.in_ok-removals.removals c.in_ok-names.names (removals_of_plan c.args.plan.now) (map name_of_write c.args.writes.now) c.is_idle.result true removed c.in_ok-names.ensures c.is_idle.ensures c.if-is_idle.true

pub returns-then-is_idle-clause-told : goal.returns-then-is_idle-clause-told
returns-then-is_idle-clause-told c =
    let removed : c.in_ok-removals.removals ≡ removals_of_plan c.args.plan.now = c.in_ok-removals.ensures ∙ (λ i. sorted_distinct_names (c.removals.ensures i ++ name_if_needed (c.is_from_text.ensures i) text_database_name)) in
    idle_fits (removals_of_plan c.args.plan.now) (map name_of_write c.args.writes.now)
    (not_idle c.in_ok-removals.removals c.in_ok-names.names (removals_of_plan c.args.plan.now) (map name_of_write c.args.writes.now) c.is_idle.result true removed c.in_ok-names.ensures c.is_idle.ensures c.if-is_idle.true)

pub begin_stage-requires : goal.begin_stage-requires
begin_stage-requires c =
    let history = c.requires.plan.0 in
    let found = c.requires.plan.1.0 in
    let files = c.requires.plan.1.1 in
    let records = c.requires.writes.0 in
    let written = c.requires.writes.2 in
    let ready : IsMadeReady history c.args.plan.now found files records written.of_records c.args.writes.now c.in_ok-removals.removals = record {
      plan = c.requires.plan.1.2;
      own = c.requires.writes.1;
      which = written.which;
      names = written.names;
      each = written.each;
      removed = c.in_ok-removals.ensures ∙ (λ i. sorted_distinct_names (c.removals.ensures i ++ name_if_needed (c.is_from_text.ensures i) text_database_name));
    } in
    may_be_changed history c.args.plan.now found files records written.of_records c.args.writes.now c.in_ok-removals.removals ready c.in_ok-names.names c.in_ok-names.ensures c.are_names.ensures c.are_names-2.ensures

pub returns-in_err-stage-clause-told : goal.returns-in_err-stage-clause-told
returns-in_err-stage-clause-told c =
    let removed : c.in_ok-removals.removals ≡ removals_of_plan c.args.plan.now = c.in_ok-removals.ensures ∙ (λ i. sorted_distinct_names (c.removals.ensures i ++ name_if_needed (c.is_from_text.ensures i) text_database_name)) in
    with_error (λ r. Agrees (λ _. true) r (unless_overflow (counts_at_first_overflow (value_of_intent (intent_of_lists (removals_of_plan c.args.plan.now) (map name_of_write c.args.writes.now)))) true)) c.from_residual-in_err-stage.result _ c.from_residual-in_err-stage.ensures.1
    (same_told {A = Staging} {B = Option Staging} (λ _. true) (λ _. true) _ c.in_ok-removals.removals c.in_ok-names.names (removals_of_plan c.args.plan.now) (map name_of_write c.args.writes.now) removed c.in_ok-names.ensures c.in_err-stage.ensures.told)

pub returns-clause-stage : goal.returns-clause-stage
returns-clause-stage c =
    let removed : c.in_ok-removals.removals ≡ removals_of_plan c.args.plan.now = c.in_ok-removals.ensures ∙ (λ i. sorted_distinct_names (c.removals.ensures i ++ name_if_needed (c.is_from_text.ensures i) text_database_name)) in (
      not_idle c.in_ok-removals.removals c.in_ok-names.names (removals_of_plan c.args.plan.now) (map name_of_write c.args.writes.now) c.is_idle.result false removed c.in_ok-names.ensures c.is_idle.ensures c.if-is_idle.false,
      c.in_ok-stage.ensures.stage ∙ (λ i. new_stage_of_removals_and_writes (removed i) (c.in_ok-names.ensures i)),
    )

pub returns-clause-told : goal.returns-clause-told
returns-clause-told c =
    let removed : c.in_ok-removals.removals ≡ removals_of_plan c.args.plan.now = c.in_ok-removals.ensures ∙ (λ i. sorted_distinct_names (c.removals.ensures i ++ name_if_needed (c.is_from_text.ensures i) text_database_name)) in
    (λ i. unless_overflow (counts_at_first_overflow (value_of_intent (intent_of_lists (sym removed i) (sym c.in_ok-names.ensures i)))) true) ∙ c.in_ok-stage.ensures.told
