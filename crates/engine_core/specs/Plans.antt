-- The plan of the files of a change, and the refusal if there is none. Serves the contracts of `src/planning.rt`; the
-- rules are in `docs/commands.md`, "What a change does with files", part "Tests".
use Rattle.std.specs.Prelude.{◌≡◌, Bool, false, map, All, List}
use Rattle.journal_staging.specs.adb_schema.Reserved.{is_reserved}
use Rattle.base_core.specs.Calls.{IfObservable}
use Rattle.base_core.specs.Tree.{TreeState, files_of}
use Rattle.change_report.specs.change_inputs.declared.root.Refused.{Refused}
use Rattle.change_report.specs.change_inputs.declared.root.Refused.TheVariants as Commands
use Rattle.change_report.specs.db_core.Members.{member_of_kept, listings_of_members}
use Rattle.change_report.specs.db_core.Seen.{members_of, packages_of}
use Rattle.change_report.specs.db_core.declared.db.Db.{Db}
use Rattle.change_report.specs.db_core.declared.members.Members.{Members}
use Rattle.change_report.specs.own_core.Planned.{HasDisjointUnreservedNames, HasSources, IsPlanForMembersAlone, IsPlanOverSomeFiles, IsRefusalForMembersAlone, IsRefusalOverFiles, MayBeRefusalOf, file_change_between}
use Rattle.change_report.specs.own_core.declared.fault.PlanFault.{PlanFault}
use Rattle.change_report.specs.own_core.declared.fault.PlanFault.TheVariants as Plans
use Rattle.change_report.specs.own_core.declared.planning.FilePlan.{FilePlan}
use Rattle.report_core.specs.declared.refusal.Refusal.TheVariants.{Owned, PathClash, Reserved}

-- the refusal, I/O error or out of memory that is returned if planning failed with this fault
abbrev pub IsRefusalOfPlanFault : PlanFault → Refused → Type 0
IsRefusalOfPlanFault (Plans.Reserved path) refused = refused ≡ Commands.Refusal (Reserved path)
IsRefusalOfPlanFault (Plans.PathClash path other) refused =
    refused ≡ Commands.Refusal (PathClash path other)
IsRefusalOfPlanFault (Plans.Owned path first second) refused =
    refused ≡ Commands.Refusal (Owned path first second)
IsRefusalOfPlanFault Plans.Disk refused = refused ≡ Commands.Disk
IsRefusalOfPlanFault Plans.Memory refused = refused ≡ Commands.Memory

-- a plan is that of the change from a database to some packages, and what it lists can be written and
-- removed
pub record IsPlanFrom (history : List TreeState) (purge : Bool) (db : Db) (members : Members)
    (plan : FilePlan) : Type 0 where
  -- the plan has the files that the change writes, removes, keeps or writes as `PATH.apk-new`, over some files
  pub lists : IsPlanOverSomeFiles (file_change_between db members purge) history plan
  -- no name is both written and removed, and none is reserved
  pub names : HasDisjointUnreservedNames plan
  -- each written file has a source in an added package
  pub sources : HasSources (members_of members) plan
  -- each written file is that of the package which owns its path
  pub owners : IsPlanForMembersAlone (members_of members) plan
  -- no path that the old database lists is reserved
  pub unreserved : All (λ l. is_reserved l.path ≡ false)
      (listings_of_members (map member_of_kept (packages_of db)))

-- a change has no plan, for this reason
pub record HasNoPlan (history : List TreeState) (purge : Bool) (db : Db) (members : Members)
    (refused : Refused) : Type 0 where
  -- the reason
  pub fault : PlanFault
  -- the refusal is the one for this reason
  pub reported : IsRefusalOfPlanFault fault refused
  -- what the packages alone show of the fault
  pub cause : IsRefusalForMembersAlone (members_of members) fault
  -- what the tree's files show of the fault, if they are observable; and else what some files show
  pub first : IfObservable history
      (λ v. IsRefusalOverFiles (file_change_between db members purge) (files_of v) fault)
  -- the reason is one that the change may have
  pub may : MayBeRefusalOf (file_change_between db members purge) history fault
