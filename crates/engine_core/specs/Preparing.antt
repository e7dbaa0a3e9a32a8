-- What is known of a change while it is prepared. Serves the contracts of the steps of a change, from
-- `read_packages` to `render`; the rules are in `docs/commands.md`, "What a change does with files" and
-- "`add` and `del`".
use Rattle.std.specs.Prelude.{◌≡◌, ℕ, Bool, true, false, not, List, All, Option, Some, None, Ok, bytes_eq}
use Rattle.std.specs.Option.{option_copied}
use Rattle.journal_staging.specs.adb_schema.Reserved.{is_reserved}
use Rattle.change_outcome.specs.Arrivals.{AreMembersFoundFromOldPackagesAndReads, arrivals_seen, members_by_packages_before_and_reads}
use Rattle.base_core.specs.Calls.{IfObservable}
use Rattle.base_core.specs.Files.{Files}
use Rattle.base_core.specs.Tree.{TreeState, files_of}
use Rattle.change_report.specs.Due.{planned_paths}
use Rattle.change_report.specs.own_core.FileChange.{old_listings}
use Rattle.change_report.specs.own_core.NamesAfter.{name_change}
use Rattle.change_report.specs.path_clashes.Clash.{HasNoClash}
use Rattle.change_report.specs.change_inputs.Inputs.{Inputs}
use Rattle.change_report.specs.change_outcome.Premises.{AreDatabaseAndWorldReadFromFiles}
use Rattle.change_report.specs.change_outcome.ChangeOutcome.{ChangeWishes, members_after_change, packages_before_and_after_with_purge, is_absent_or_different}
use Rattle.change_report.specs.change_outcome.MembersAfter.{MemberFound, found_members}
use Rattle.change_report.specs.change_outcome.Triggers.{unless_trigger_due}
use Rattle.change_report.specs.db_core.Seen.{members_of, packages_of}
use Rattle.change_report.specs.db_core.declared.members.Members.{Members}
use Rattle.change_report.specs.make_info.Reads.{Reads}
use Rattle.dep_core.specs.World.{world_text}
use Rattle.change_report.specs.own_core.Planned.{ArePlanLists, HasDisjointUnreservedNames, HasSources, IsPlanForMembersAlone}
use Rattle.change_report.specs.package_changes.Changes.{Replacement}
use Rattle.change_report.specs.package_changes.Placed.{names_with_change_and_old_and_pool_place}
use Rattle.change_report.specs.package_changes.Seen.{placed_names_seen, placed_replacement_from_parts}
use Rattle.root_names.specs.RootNames as Names
use Rattle.engine_core.specs.Plans.{IsPlanFrom}
use Rattle.engine_core.specs.SelectionSeen.{HasDatabaseOfInputs, inputs_of_selection, replacement_seen, wishes_of_selection}
use Rattle.engine_core.specs.declared.choosing.Selection.{Selection}
use Rattle.engine_core.specs.declared.packages.ReadPackages.{ReadPackages}
use Rattle.engine_core.specs.declared.planning.Plan.{Plan}
use Rattle.engine_core.specs.declared.rendering.NewRecords.{NewRecords}
use Rattle.engine_core.specs.declared.writes.RecordWrites.{RecordWrites}

-- on an observable tree, the database and world were read from its files
abbrev pub IsRootRead : List TreeState → Inputs → Type 0
IsRootRead history inputs =
    IfObservable history (λ v. AreDatabaseAndWorldReadFromFiles (files_of v) inputs.root)

-- ---- the packages

-- what was read of the root for these packages
abbrev pub inputs_of_packages : ReadPackages → Inputs
inputs_of_packages a = inputs_of_selection a.selection.now

-- the chosen candidates, and the packages before that they replace
abbrev pub replacement_of_packages : ReadPackages → Replacement
replacement_of_packages a = replacement_seen a.selection.now

-- what the command asks for besides its world
abbrev pub wishes_of_packages : ReadPackages → ChangeWishes
wishes_of_packages a = wishes_of_selection a.selection.now

-- the packages after the change of a selection were read, and are those that the definition finds (`found`)
pub record ArePackagesReadForSelection (history : List TreeState) (s : Selection) (a : ReadPackages)
    (found : List MemberFound) : Type 0 where
  -- the packages were read for this selection
  pub selection : a.selection.now ≡ s
  -- the names are those of the packages before and of the selected candidates, with their places
  pub placed : placed_names_seen a.names
      ≡ names_with_change_and_old_and_pool_place (placed_replacement_from_parts
      a.selection.now.db a.selection.now.pool a.selection.now.trace a.selection.now.again)
  -- each package was read as the definition finds it
  pub read : AreMembersFoundFromOldPackagesAndReads history (packages_of a.selection.now.db)
      (arrivals_seen a.arrivals) found

-- The added packages were read. With the kept ones they are the packages `found`: those after the change, each added
-- one with its file.
pub record HasReadAddedPackages (history : List TreeState) (a : ReadPackages) (found : List MemberFound)
    : Type 0 where
  -- the packages before are those of the inputs
  pub database : HasDatabaseOfInputs a.selection.now
  -- the names are those of the packages before and of the selected candidates, with their places
  pub placed : placed_names_seen a.names
      ≡ names_with_change_and_old_and_pool_place (placed_replacement_from_parts
      a.selection.now.db a.selection.now.pool a.selection.now.trace a.selection.now.again)
  -- each package was read as the definition finds it
  pub read : AreMembersFoundFromOldPackagesAndReads history (packages_of a.selection.now.db)
      (arrivals_seen a.arrivals) found
  -- the inputs were read from the tree
  pub root : IsRootRead history (inputs_of_packages a)

-- reads find these packages after the change
pub record ArePackagesFoundByReads (history : List TreeState) (a : ReadPackages) (read : Reads)
    (found : List MemberFound) : Type 0 where
  -- the added packages were read
  pub arrivals : HasReadAddedPackages history a found
  -- the definition finds these packages by these reads
  pub is : members_after_change (inputs_of_packages a) (replacement_of_packages a) (wishes_of_packages a)
      read ≡ Ok found

-- the packages after a change were read, and `after` are their members
pub record IsArrived (history : List TreeState) (a : ReadPackages) (after : Members)
    (found : List MemberFound) : Type 0 where
  -- the added packages were read
  pub read : HasReadAddedPackages history a found
  -- the members are the packages that were found
  pub members : members_of after ≡ found_members found

-- ---- the plan

-- what was read of the root, as it is known of a plan
abbrev pub inputs_of_plan : Plan → Inputs
inputs_of_plan p = inputs_of_packages p.packages.now

-- the chosen candidates and the packages before that they replace, as they are known of a plan
abbrev pub replacement_of_plan : Plan → Replacement
replacement_of_plan p = replacement_of_packages p.packages.now

-- what the command asks for besides its world, as it is known of a plan
abbrev pub wishes_of_plan : Plan → ChangeWishes
wishes_of_plan p = wishes_of_packages p.packages.now

-- a plan is that of some packages, over these files if the tree is observable, and its triggers allow it
pub record IsPlanOfPackages (history : List TreeState) (a : ReadPackages) (p : Plan) : Type 0 where
  -- the plan is made for these packages
  pub packages : p.packages.now ≡ a
  -- its members are these packages
  pub members : members_of p.members
      ≡ members_by_packages_before_and_reads (packages_of p.packages.now.selection.now.db)
      (arrivals_seen p.packages.now.arrivals)
  -- the plan has the files that the change writes, removes, keeps or writes as `PATH.apk-new`
  pub files : IsPlanFrom history (wishes_of_plan p).purge p.packages.now.selection.now.db p.members
      p.files
  -- no trigger is due, or scripts are skipped
  pub triggers : unless_trigger_due (wishes_of_plan p).no_scripts (planned_paths p.files)
      (members_of p.members) ≡ Ok true

-- the files of a change are planned, over these files if the tree is observable
pub record IsPlanned (history : List TreeState) (p : Plan) (found : List MemberFound) (files : Files)
    : Type 0 where
  -- the packages after the change were read
  pub arrived : IsArrived history p.packages.now p.members found
  -- on an observable tree, the files are the tree's
  pub told : IfObservable history (λ v. files ≡ files_of v)
  -- the plan is that of the change over these files
  pub lists : ArePlanLists (packages_before_and_after_with_purge (inputs_of_plan p)
      (wishes_of_plan p) found) files p.files
  -- no name is both written and removed, and none is reserved
  pub names : HasDisjointUnreservedNames p.files
  -- each written file has a source in an added package
  pub sources : HasSources (members_of p.members) p.files
  -- each written file is that of the package which owns its path
  pub owners : IsPlanForMembersAlone (members_of p.members) p.files
  -- no name after the change is a folder of another
  pub no_clash : IfObservable history (λ v.
      HasNoClash (name_change (packages_before_and_after_with_purge (inputs_of_plan p)
      (wishes_of_plan p) found) files) files)
  -- no path that a package before lists is reserved
  pub unreserved : All (λ l. is_reserved l.path ≡ false)
      (old_listings (packages_before_and_after_with_purge (inputs_of_plan p) (wishes_of_plan p) found))

-- the files of a change are planned, by some packages that are found and over some files
abbrev pub IsPlannedFromSomeFiles : List TreeState → Plan → Type 0
IsPlannedFromSomeFiles history p =
    (found : List MemberFound) × (files : Files) × IsPlanned history p found files

-- ---- the database and world

-- the new database and world of a change: the text is that of the new world, and both have the names of
-- their files
pub record AreNewRecordsOf (inputs : Inputs) (records : NewRecords) : Type 0 where
  -- the text of world is that of the new world
  pub world : records.world ≡ world_text inputs.root.new_world
  -- both have the names of their files
  pub database_name : records.database_name ≡ Names.database_name
  -- the name for world is that of its file
  pub world_name : records.world_name ≡ Names.world_name

-- the bytes that are to be written of a file: these bytes if the test is true, and otherwise None
abbrev pub bytes_if : Bool → List ℕ → Option (List ℕ)
bytes_if true bytes = Some bytes
bytes_if false bytes = None

-- which of the database and world are written, and with which bytes
pub record AreRecordWrites (inputs : Inputs) (records : NewRecords) (writes : RecordWrites)
    : Type 0 where
  -- the name of the database's file
  pub database_name : writes.database_name.now ≡ records.database_name
  -- the bytes of the database, if its file is absent or has other bytes
  pub database : option_copied writes.database
      ≡ bytes_if (is_absent_or_different inputs.root.database.file records.database.items) records.database.items
  -- the name of world's file
  pub world_name : writes.world_name.now ≡ records.world_name
  -- the bytes of world, if its text before is different
  pub world : option_copied writes.world
      ≡ bytes_if (not (bytes_eq inputs.root.world_text records.world)) records.world
