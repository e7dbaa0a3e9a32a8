-- A rendered change: what is written, the journal entry, and the report. Serves the contracts of
-- `src/rendering.rt` and `src/committing.rt`; the rules are in `docs/commands.md`, "`add` and `del`", and
-- in `docs/crash-safety.md`, "A change of several files".
use Rattle.std.specs.Prelude.{◌≡◌, ◌++◌, ℕ, Bool, true, false, List, All, Option, Some, None, Ok, Err, map}
use Rattle.change_outcome.specs.adb_write.Canonical.{counts_at_first_overflow}
use Rattle.base_core.specs.Files.{Files}
use Rattle.base_core.specs.Tree.{TreeState}
use Rattle.change_report.specs.own_core.PlanLists.{sorted_distinct_names}
use Rattle.change_report.specs.change_inputs.Answers.{Agrees}
use Rattle.change_report.specs.change_inputs.declared.root.Refused.{Refused}
use Rattle.change_report.specs.change_outcome.ChangeOutcome.{intent_of_change, change_report, has_actions, packages_before_and_after_with_purge, name_if_needed, database_and_world_after_change, unless_overflow}
use Rattle.change_report.specs.change_outcome.MembersAfter.{MemberFound}
use Rattle.change_report.specs.db_core.Seen.{members_of}
use Rattle.change_report.specs.journal_core.Staged.{Staging, new_stage_of_removals_and_writes}
use Rattle.change_report.specs.journal_intent.IntentValue.{intent_of_lists, value_of_intent}
use Rattle.change_report.specs.own_core.Planned.{written_names}
use Rattle.change_report.specs.own_core.WritesSeen.{writes_in}
use Rattle.journal_staging.specs.declared.writes.StagedWrite.{StagedWrite}
use Rattle.root_names.specs.RootNames.{text_database_name}
use Rattle.engine_core.specs.Preparing.{AreRecordWrites, IsPlanned, inputs_of_plan, replacement_of_plan, wishes_of_plan}
use Rattle.engine_core.specs.Writing.{IsWriteOfChange, database_and_world_names, package_at, name_of_write}
use Rattle.engine_core.specs.declared.planning.Plan.{Plan}
use Rattle.engine_core.specs.declared.rendering.NewRecords.{NewRecords}
use Rattle.engine_core.specs.declared.rendering.Rendered.{Rendered}
use Rattle.engine_core.specs.declared.writes.RecordWrites.{RecordWrites}

-- ---- what is written and removed

-- the writes of a change are those of its plan, and those of the database and world, in byte order
pub record AreWritesOf (p : Plan) (records : NewRecords) (writes : List StagedWrite) : Type 0 where
  -- the writes of the database and of world
  pub of_records : RecordWrites
  -- each of these two is written if it differs from its file
  pub which : AreRecordWrites (inputs_of_plan p) records of_records
  -- the names of all writes, each once, in byte order
  pub names : map name_of_write writes
      ≡ sorted_distinct_names (written_names p.files ++ database_and_world_names of_records)
  -- each write has the bytes of a file of the plan, or those of the database or of world
  pub each : All (IsWriteOfChange (members_of p.members) (package_at p.packages.now.arrivals)
      (writes_in p.files.writes) of_records) writes

-- the names that a change removes, in byte order: those of its plan, and that of a text database that
-- is converted
abbrev pub removals_of_plan : Plan → List (List ℕ)
removals_of_plan p = sorted_distinct_names (p.files.removals
    ++ name_if_needed (inputs_of_plan p).root.database.from_text text_database_name)

-- ---- the journal entry

-- the stage of a change that removes and writes these names; None if there are no names
abbrev pub IsStageOf : List (List ℕ) → List (List ℕ) → Option Staging → Type 0
IsStageOf removals writes None =
    has_actions (record { removals = removals; writes = writes }) ≡ false
IsStageOf removals writes (Some stage) =
    (has_actions (record { removals = removals; writes = writes }) ≡ true)
    × (stage ≡ new_stage_of_removals_and_writes removals writes)

-- A change is refused since its journal entry exceeds a limit of the writer; or memory has run out. This holds for all
-- packages and files by which the plan is made.
abbrev pub IsRefusedForOverflow : Plan → NewRecords → Refused → Type 0
IsRefusedForOverflow p records refused =
    (history : List TreeState) (found : List MemberFound) (files : Files)
    → IsPlanned history p found files
    → Agrees {A = Bool} {B = Bool} (λ _. true) (Err refused) (unless_overflow (counts_at_first_overflow
    (value_of_intent (intent_of_change (inputs_of_plan p)
    (packages_before_and_after_with_purge (inputs_of_plan p) (wishes_of_plan p) found) files
    (database_and_world_after_change (inputs_of_plan p) records.database.items)))) true)

-- ---- the whole

-- a change is rendered from its plan, with this database and world
pub record IsRendered (p : Plan) (records : NewRecords) (r : Rendered) : Type 0 where
  -- the writes are those of the plan, of the database and of world
  pub written : AreWritesOf p records r.writes.items
  -- the stage lists the removals and writes of the change
  pub stage : IsStageOf (removals_of_plan p) (map name_of_write r.writes.items) r.stage
  -- the journal entry exceeds no limit of the writer
  pub fits : unless_overflow (counts_at_first_overflow (value_of_intent
      (intent_of_lists (removals_of_plan p) (map name_of_write r.writes.items)))) true ≡ Ok true
  -- the report is that of the change
  pub report : (history : List TreeState) (found : List MemberFound) (files : Files)
      → IsPlanned history p found files
      → r.report ≡ change_report (replacement_of_plan p) (wishes_of_plan p)
      (packages_before_and_after_with_purge (inputs_of_plan p) (wishes_of_plan p) found) files
