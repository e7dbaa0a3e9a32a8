-- Which triggers are due after a change, by the plan of its files. The rules are in
-- `docs/commands.md`, "`add` and `del`", parts "Which triggers are due" and "What is refused".
use Rattle.std.specs.Prelude.{ℕ, Bool, true, List, ◌++◌, Option, Some, None, Result, Ok, Err}
use Rattle.change_outcome.specs.ChangeOutcome.{member_name_at_place}
use Rattle.change_outcome.specs.db_core.Members.{Member}
use Rattle.own_core.specs.Planned.{written_names}
use Rattle.own_core.specs.declared.planning.FilePlan.{FilePlan}
use Rattle.report_core.specs.declared.refusal.Refusal.{Refusal}
use Rattle.report_core.specs.declared.refusal.Refusal.TheVariants.{TriggerNeeded}

-- the paths of the files of packages that a plan writes and removes
abbrev pub planned_paths : FilePlan → List (List ℕ)
planned_paths plan = written_names plan ++ plan.removals

-- the refusal of the change, if there is the place (index) of a member whose trigger is due; otherwise true
abbrev pub refusal_if_trigger_due : List Member → Option ℕ → Result Bool Refusal
refusal_if_trigger_due members None = Ok true
refusal_if_trigger_due members (Some place) = Err (TriggerNeeded (member_name_at_place members place))
