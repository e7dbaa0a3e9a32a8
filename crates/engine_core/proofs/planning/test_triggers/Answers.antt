use Rattle.std.proofs.Common.{◌≡◌, ◌∙◌, ℕ, Bool, List, Bor, Err, true, ap, map, sym}
use Rattle.change_report.specs.Due.{planned_paths}
use Rattle.change_report.specs.change_inputs.Answers.{Agrees}
use Rattle.change_report.specs.change_inputs.declared.root.Refused.TheVariants.{Memory}
use Rattle.change_report.specs.change_outcome.Triggers.{folders_of_paths, unless_trigger_due}
use Rattle.change_report.specs.db_core.Seen.{members_of}
use Rattle.report_core.specs.declared.refusal.Refusal.TheVariants.{TriggerNeeded}
use Rattle.engine_core.proofs.SelectedRuns.{with_error}
use Rattle.engine_core.proofs.planning.test_triggers.Goals as goal

pub returns-in_err-folders : goal.returns-in_err-folders
returns-in_err-folders c =
    with_error (λ r. Agrees (λ _. true) r (unless_trigger_due c.args.no_scripts (planned_paths c.args.plan.now) (members_of c.args.members.now))) c.from_residual.result Memory c.from_residual.ensures.1 tt

pub member_name-requires : goal.member_name-requires
member_name-requires c = c.in-Some.ensures.within

pub returns-in_err-name-in-Some : goal.returns-in_err-name-in-Some
returns-in_err-name-in-Some c =
    with_error (λ r. Agrees (λ _. true) r (unless_trigger_due c.args.no_scripts (planned_paths c.args.plan.now) (members_of c.args.members.now))) c.from_residual-in_err-name-in-Some.result Memory c.from_residual-in_err-name-in-Some.ensures.1 tt

pub returns-in-Some : goal.returns-in-Some
returns-in-Some c =
    let paths = planned_paths c.args.plan.now in
    let folders : map (λ (f : Bor (List ℕ)). f.now) c.deref.result.now ≡ folders_of_paths paths = ap (map (λ (f : Bor (List ℕ)). f.now)) c.deref.ensures.value ∙ c.in_ok-folders.ensures in
    ap (λ (b : Bool). unless_trigger_due b paths (members_of c.args.members.now)) c.if-no_scripts.false ∙ c.in-Some.ensures.needed paths folders
    ∙ ap (λ (n : List ℕ). Err (TriggerNeeded n)) (sym c.in_ok-name-in-Some.ensures)

pub returns : goal.returns
returns c =
    let paths = planned_paths c.args.plan.now in
    let folders : map (λ (f : Bor (List ℕ)). f.now) c.deref.result.now ≡ folders_of_paths paths = ap (map (λ (f : Bor (List ℕ)). f.now)) c.deref.ensures.value ∙ c.in_ok-folders.ensures in
    ap (λ (b : Bool). unless_trigger_due b paths (members_of c.args.members.now)) c.if-no_scripts.false ∙ c.in-None.ensures.needed paths folders
