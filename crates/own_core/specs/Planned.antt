-- What `plan` ensures of the plan of a change, and of the fault by which it refuses a change.
-- The rules are in `docs/commands.md`, "What a change does with files". `FilesAfter`, `NamesAfter`
-- and `PlanLists` define them, with the crates `path_clashes` and `file_owners`. This file says which
-- of them a plan or a refusal ensures, and over which files.
use Rattle.std.specs.Prelude.{◌≡◌, ℕ, Bool, true, false, List, map, Option, Some, None, All, Contains, option_map, slice_get}
use Rattle.file_guard.specs.adb_schema.Reserved.{is_reserved}
use Rattle.adb_view.specs.FieldIndexes.{PACKAGE_PATHS_INDEX}
use Rattle.adb_view.specs.Values.{entry_at_index}
use Rattle.base_core.specs.Calls.{IfObservable}
use Rattle.base_core.specs.Files.{Files}
use Rattle.base_core.specs.Listed.{AreSortedDistinctTexts}
use Rattle.base_core.specs.Name.{IsName}
use Rattle.base_core.specs.Tree.{TreeState, files_of}
use Rattle.file_owners.specs.db_core.Members.{Member, is_added, member_name}
use Rattle.file_owners.specs.db_core.Seen.{members_of, packages_of}
use Rattle.file_owners.specs.db_core.declared.db.Db.{Db}
use Rattle.file_owners.specs.db_core.declared.members.Members.{Members}
use Rattle.path_claim_lists.specs.path_claims.Claims.{ContestedPath}
use Rattle.path_claim_lists.specs.path_clashes.Clash.{HasNoClash, IsFirstClash, NamePair}
use Rattle.path_claim_lists.specs.path_clashes.FirstClash.{IsFirstClashOverSomeFiles}
use Rattle.file_owners.specs.Owners.{first_contested_member_path_in_byte_order, owned_flags_of}
use Rattle.own_core.specs.FileChange.{FileChange}
use Rattle.own_core.specs.NamesAfter.{name_change}
use Rattle.own_core.specs.PlanLists.{FileWrite, paths_with_apk_new_file, file_writes_of, first_reserved_added_path_in_byte_order, kept_left_over_paths_of, removals_of}
use Rattle.own_core.specs.ClaimEntries.{HasFileAt}
use Rattle.own_core.specs.WritesSeen.{writes_in}
use Rattle.own_core.specs.declared.fault.PlanFault.{PlanFault}
use Rattle.own_core.specs.declared.fault.PlanFault.TheVariants.{Disk, Memory, Owned, PathClash, Reserved}
use Rattle.own_core.specs.declared.planning.FilePlan.{FilePlan}

-- the change of files from the packages of a database to the members after the change, with or without `--purge`
abbrev pub file_change_between : Db → Members → Bool → FileChange
file_change_between old after purge =
    record { old = packages_of old; members = members_of after; purge = purge }

-- ---- a plan

-- over these files the lists of the plan are those of the change
pub record ArePlanLists (change : FileChange) (files : Files) (plan : FilePlan) : Type 0 where
  -- the removed names
  pub removals : plan.removals ≡ removals_of change files
  -- the names that are written, each with the file whose contents it gets
  pub writes : writes_in plan.writes ≡ file_writes_of change files
  -- the paths beside which a file `PATH.apk-new` is written
  pub aside : plan.aside ≡ paths_with_apk_new_file change files
  -- the paths of the user's files that are kept although no package lists them any more
  pub kept : plan.kept ≡ kept_left_over_paths_of change files

-- The lists of the plan are those of the change over some files, which are the tree's if the tree is observable. Then
-- no names clash over these files; otherwise none clash over some files.
pub record IsPlanOverSomeFiles (change : FileChange) (history : List TreeState)
    (plan : FilePlan) : Type 0 where
  -- the files over which the plan was made
  pub files : Files
  -- if the tree is observable, these are the tree's files
  pub told : IfObservable history (λ v. files ≡ files_of v)
  -- the lists of the plan are those of the change over these files
  pub lists : ArePlanLists change files plan
  -- if the tree is observable, no names clash over these files
  pub no_clash : IfObservable history (λ v. HasNoClash (name_change change files) files)
  -- over any tree: no names clash over some files
  pub may_have_none : IsFirstClashOverSomeFiles (name_change change files) None

-- what a plan ensures that depends only on the members, and not on the files of the tree
pub record IsPlanForMembersAlone (members : List Member) (plan : FilePlan) : Type 0 where
  -- for each file that members list, the plan says whether its member owns it
  pub owned : plan.owned ≡ owned_flags_of members
  -- no added member lists a reserved path
  pub allowed : first_reserved_added_path_in_byte_order members ≡ None
  -- no path is contested
  pub owners : first_contested_member_path_in_byte_order members ≡ None

-- the names under which a plan writes files: their paths, or `PATH.apk-new`
abbrev pub written_names : FilePlan → List (List ℕ)
written_names plan = map (λ w. w.name) (writes_in plan.writes)

-- a name that a package may list: a name of a tree that is not reserved
pub record IsUnreservedName (name : List ℕ) : Type 0 where
  -- it is a name of a tree
  pub named : IsName name
  -- it is not reserved
  pub unreserved : is_reserved name ≡ false

-- the names that a plan removes and writes are not reserved and in byte order, and none is both removed and written
pub record HasDisjointUnreservedNames (plan : FilePlan) : Type 0 where
  -- no removed name is reserved
  pub removals : All IsUnreservedName plan.removals
  -- no written name is reserved
  pub writes : All IsUnreservedName (written_names plan)
  -- the removed names are in byte order, each once
  pub removals_rise : AreSortedDistinctTexts plan.removals
  -- the written names are in byte order, each once
  pub writes_rise : AreSortedDistinctTexts (written_names plan)
  -- no name is both removed and written
  pub apart : (name : List ℕ) → Contains plan.removals name → Contains (written_names plan) name → ⊥

-- the write has the contents of a file of an added member
pub record IsOfAddedFile (members : List Member) (w : FileWrite) : Type 0 where
  -- the member of the write
  pub member : Member
  -- the member has the index that the write has
  pub at : slice_get members w.member ≡ Some member
  -- the member is added
  pub comes : is_added member ≡ true
  -- the member's package has a file at the positions that the write has
  pub place : HasFileAt (entry_at_index member.pkg PACKAGE_PATHS_INDEX) w.folder w.file

-- each write of the plan has the contents of a file of an added member
abbrev pub HasSources : List Member → FilePlan → Type 0
HasSources members plan = All (IsOfAddedFile members) (writes_in plan.writes)

-- ---- the fault, if there is no plan

-- the name of the package of the member with this index, if there is one
abbrev pub member_name_at : List Member → ℕ → Option (List ℕ)
member_name_at members place = option_map member_name (slice_get members place)

-- the path is the first one in byte order that no member owns, and `first` and `second` are the names of its rivals
pub record IsFirstContest (members : List Member) (path first second : List ℕ) : Type 0 where
  -- the path, with the indexes of its rivals
  pub contest : ContestedPath
  -- it is the first contested path
  pub is : first_contested_member_path_in_byte_order members ≡ Some contest
  -- the given path is this one
  pub at : path ≡ contest.path
  -- `first` is the name of the first rival, the first member that lists the path
  pub lister : member_name_at members contest.rivals.first ≡ Some first
  -- `second` is the name of the second rival
  pub other : member_name_at members contest.rivals.second ≡ Some second

-- the fault is `Owned`: it has the first contested path and the names of its rivals. No other fault is one
abbrev pub IsContestedPathFaultWithRivals : List Member → PlanFault → Type 0
IsContestedPathFaultWithRivals members (Reserved path) = ⊥
IsContestedPathFaultWithRivals members (PathClash path other) = ⊥
IsContestedPathFaultWithRivals members (Owned path first second) = IsFirstContest members path first second
IsContestedPathFaultWithRivals members Disk = ⊥
IsContestedPathFaultWithRivals members Memory = ⊥

-- What a fault says over these files. A reported clash is the first one. A contested path is reported only if there
-- is no clash. The other faults say nothing about the files.
abbrev pub IsRefusalOverFiles : FileChange → Files → PlanFault → Type 0
IsRefusalOverFiles change files (Reserved path) = Unit {0}
IsRefusalOverFiles change files (PathClash path other) =
    IsFirstClash (name_change change files) files (record { path = path; other = other })
IsRefusalOverFiles change files (Owned path first second) = HasNoClash (name_change change files) files
IsRefusalOverFiles change files Disk = Unit {0}
IsRefusalOverFiles change files Memory = Unit {0}

-- `clash` is the first clash over some files, or None if there is none. The names of the change are computed over the
-- tree's files if the tree is observable, and otherwise over any.
pub record IsClashBySome (change : FileChange) (history : List TreeState)
    (clash : Option NamePair) : Type 0 where
  -- the files over which the names of the change are computed
  pub files : Files
  -- if the tree is observable, these are the tree's files
  pub told : IfObservable history (λ v. files ≡ files_of v)
  -- for these names, `clash` is the result of a search for the first clash over some files
  pub may : IsFirstClashOverSomeFiles (name_change change files) clash

-- What a fault says over any tree, even one that is not observable. A reported clash is the first one over some
-- files. A contested path is reported only if there is no clash over some files.
abbrev pub MayBeRefusalOf : FileChange → List TreeState → PlanFault → Type 0
MayBeRefusalOf change history (Reserved path) = Unit {0}
MayBeRefusalOf change history (PathClash path other) =
    IsClashBySome change history (Some (record { path = path; other = other }))
MayBeRefusalOf change history (Owned path first second) = IsClashBySome change history None
MayBeRefusalOf change history Disk = Unit {0}
MayBeRefusalOf change history Memory = Unit {0}

-- What a fault says about the members alone. A reported reserved path is the first one. Another fault, except
-- `Memory`, is reported only if there is none. A contested path is the first one, with the names of its rivals.
abbrev pub IsRefusalForMembersAlone : List Member → PlanFault → Type 0
IsRefusalForMembersAlone members (Reserved path) =
    first_reserved_added_path_in_byte_order members ≡ Some path
IsRefusalForMembersAlone members (PathClash path other) =
    first_reserved_added_path_in_byte_order members ≡ None
IsRefusalForMembersAlone members (Owned path first second) =
    (first_reserved_added_path_in_byte_order members ≡ None) × IsFirstContest members path first second
IsRefusalForMembersAlone members Disk = first_reserved_added_path_in_byte_order members ≡ None
IsRefusalForMembersAlone members Memory = Unit {0}
