-- How a rendered change is committed. Serves the contracts of `src/committing.rt`; the rules are in
-- `docs/commands.md`, "`add` and `del`", and in `docs/crash-safety.md`, "A change of several files".
use Rattle.std.specs.Prelude.{◌≡◌, ℕ, List, Some, slice_get}
use Rattle.base_core.specs.Files.{Files}
use Rattle.base_core.specs.Tree.{TreeState}
use Rattle.base_core.specs.declared.cause.Cause.{Cause}
use Rattle.change_report.specs.change_inputs.declared.root.Refused.{Refused}
use Rattle.change_report.specs.change_inputs.declared.root.Refused.TheVariants.{Disk, Memory, Refusal as IsRefused}
use Rattle.change_report.specs.change_outcome.ChangeOutcome.{ChangeDone, change_done, database_and_world_after_change}
use Rattle.change_report.specs.change_outcome.MembersAfter.{MemberFound}
use Rattle.change_report.specs.db_core.Members.{Member, member_name}
use Rattle.change_report.specs.file_owners.Replaces.{package_version_text}
use Rattle.report_core.specs.declared.refusal.Refusal.{Refusal}
use Rattle.report_core.specs.declared.refusal.Refusal.TheVariants.{PackageBad}
use Rattle.engine_core.specs.Preparing.{AreNewRecordsOf, IsPlanned, inputs_of_plan, replacement_of_plan, wishes_of_plan}
use Rattle.engine_core.specs.Rendering.{IsRendered}
use Rattle.engine_core.specs.declared.planning.Plan.{Plan}
use Rattle.engine_core.specs.declared.rendering.NewRecords.{NewRecords}
use Rattle.engine_core.specs.declared.rendering.Rendered.{Rendered}

-- ---- the result

-- A change is ready to be committed. Its files are planned over the tree as it is now, and it is rendered: all that it
-- writes is in memory.
pub record IsReadyToCommit (history : List TreeState) (p : Plan) (r : Rendered) : Type 0 where
  -- the packages after the change
  pub found : List MemberFound
  -- the files over which the change is planned
  pub files : Files
  -- the plan is that of the change to these packages, over these files
  pub planned : IsPlanned history p found files
  -- the new database and world
  pub records : NewRecords
  -- they are those of the change
  pub own : AreNewRecordsOf (inputs_of_plan p) records
  -- the staged files and the report are made of the plan and of the new database and world
  pub rendered : IsRendered p records r

-- the result of a change that is committed
abbrev pub result_of_ready :
    {history : List TreeState} {p : Plan} {r : Rendered} → IsReadyToCommit history p r → ChangeDone
result_of_ready {history} {p} {r} ready =
    change_done (inputs_of_plan p) (replacement_of_plan p) (wishes_of_plan p) ready.found ready.files
    (database_and_world_after_change (inputs_of_plan p) ready.records.database.items)

-- ---- a package that was changed

-- the refusal names the member at this place (index), whose file is bad, and reports the test that failed (`cause`)
abbrev pub IsPackageBad : List Member → ℕ → Cause → Refusal → Type 0
IsPackageBad members place cause refusal =
    (m : Member)
    × (slice_get members place ≡ Some m)
    × (refusal ≡ PackageBad (member_name m) (package_version_text m.pkg) cause)

-- how a commit fails if the package of the member at this place (index) was changed since it was tested: with the
-- refusal that the package is bad, or out of memory
abbrev pub IsRefusedPackage : List Member → ℕ → Cause → Refused → Type 0
IsRefusedPackage members place cause (IsRefused refusal) = IsPackageBad members place cause refusal
IsRefusedPackage members place cause Disk = ⊥
IsRefusedPackage members place cause Memory = Unit {0}
