-- Why a change is refused whose selection was found: reasons 9 to 12 of `docs/commands.md`, "`add` and `del`", part
-- "What is refused". What each refusal means is in the README of this crate.
use Rattle.std.specs.Prelude.{◌≡◌, ◌⊎◌, ℕ, true, false, List, Some, None, Ok, is_some}
use Rattle.outcome.specs.adb_fields.FirstPair.{IsIn}
use Rattle.outcome.specs.adb_schema.Reserved.{is_reserved}
use Rattle.adb_view.specs.Plain.{Plain}
use Rattle.outcome.specs.adb_write.Canonical.{exceeds_a_limit, counts_at_first_overflow}
use Rattle.base_core.specs.Files.{Files}
use Rattle.outcome.specs.own_core.FileChange.{FileChange}
use Rattle.outcome.specs.own_core.NamesAfter.{added_paths, name_change}
use Rattle.outcome.specs.change_inputs.Inputs.{Inputs}
use Rattle.outcome.specs.change_outcome.ChangeOutcome.{ChangeWishes, intent_of_change, members_after_change, packages_before_and_after_with_purge, database_and_world_after_change, touched_paths}
use Rattle.outcome.specs.change_outcome.MembersAfter.{MemberFound, found_members}
use Rattle.outcome.specs.change_outcome.PackageFiles.{has_script_with_number}
use Rattle.report_core.specs.Numbers.{TRIGGER_SCRIPT}
use Rattle.outcome.specs.change_outcome.Triggers.{is_folder_matched_by_pattern, trigger_patterns_of_package}
use Rattle.outcome.specs.db_core.Members.{Listing, Member, listings_of_members, member_name}
use Rattle.outcome.specs.db_core.NewDatabase.{database_of, database_value}
use Rattle.outcome.specs.file_owners.Owners.{owned_flags_of, owner_of_path}
use Rattle.outcome.specs.file_owners.Replaces.{takes_over}
use Rattle.outcome.specs.journal_intent.IntentValue.{value_of_intent}
use Rattle.base_core.specs.ByteOrder.{precedes}
use Rattle.outcome.specs.make_info.Reads.{Reads}
use Rattle.outcome.specs.package_files.Folders.{folder_of}
use Rattle.outcome.specs.package_changes.Changes.{Replacement}
use Rattle.outcome.specs.path_clashes.Clash.{IsFirstClash}
use Rattle.report_core.specs.declared.refusal.Refusal.{Refusal}
use Rattle.report_core.specs.declared.refusal.Refusal.TheVariants.{Owned, PackageBad, PackageDiffers, PackageMissing, PathClash, Reserved, ResultTooLarge, ScriptNeeded, TriggerNeeded}
use Rattle.refusal_laws.specs.PackageFaults.{IsAddedPackageFileBad, IsAddedPackageFileMissing, IsFileOfOtherPackage, IsFirstScriptToRunForPackageChange}

-- ---- paths

-- a path is the first that an added package lists and that apk keeps for itself
pub record IsFirstReservedAddedPath (members : List Member) (path : List ℕ) : Type 0 where
  -- an added package lists the path
  pub comes : IsIn path (added_paths members)
  -- the path is reserved for apk itself
  pub reserved : is_reserved path ≡ true
  -- no reserved path that an added package lists precedes this path in byte order
  pub first : (other : List ℕ) → IsIn other (added_paths members) → is_reserved other ≡ true
      → precedes other path ≡ false

-- `l` is an entry for this path in a package of this name after the change
pub record IsListingOfPathByName (members : List Member) (path name : List ℕ) (l : Listing) : Type 0 where
  -- the listing is one of the packages after the change
  pub listed : IsIn l (listings_of_members members)
  -- the listing is for this path
  pub of_path : l.path ≡ path
  -- the package of the listing has this name
  pub by : member_name l.member ≡ name

-- A path is the first contested one: packages list it, and no package takes it over from all others that do. Packages
-- with the names `one` and `other` list it, and the first does not take over files of the second. If no third package
-- lists the path, the second does not take over files of the first either.
pub record IsFirstContestedPath (members : List Member) (path one other : List ℕ) : Type 0 where
  -- no package owns the path
  pub unowned : owner_of_path members path ≡ None
  -- each listed path that precedes this one in byte order has an owner
  pub first : (l : Listing) → IsIn l (listings_of_members members) → precedes l.path path ≡ true
      → is_some (owner_of_path members l.path) ≡ true
  -- the listing of the first of the two packages
  pub by_one : Listing
  pub lists_one : IsListingOfPathByName members path one by_one
  -- the listing of the second of the two packages
  pub by_other : Listing
  pub lists_other : IsListingOfPathByName members path other by_other
  -- the listings are of two different packages
  pub apart : by_one.place ≡ by_other.place → ⊥
  -- the first package does not take over files of the second
  pub located : takes_over by_one.member.pkg by_other.member.pkg ≡ false
  -- if no third package lists the path, the second does not take over files of the first
  pub neither : ((l : Listing) → IsIn l (listings_of_members members) → l.path ≡ path
      → (l.place ≡ by_one.place) ⊎ (l.place ≡ by_other.place))
      → takes_over by_other.member.pkg by_one.member.pkg ≡ false

-- ---- triggers

-- a trigger pattern of the package matches the folder of a file that the change writes or removes
pub record HasPatternOfTouchedFolder (change : FileChange) (files : Files) (pkg : Plain) : Type 0 where
  -- the path of a file that the change writes or removes
  pub path : List ℕ
  pub touched : IsIn path (touched_paths change files)
  -- a pattern of the package's trigger
  pub pattern : List ℕ
  pub is_pattern : IsIn pattern (trigger_patterns_of_package pkg)
  -- the pattern matches the folder of the path
  pub matched : is_folder_matched_by_pattern (folder_of path) pattern ≡ true

-- the trigger of a package of this name is due: the package has a trigger script, and a trigger pattern matches the
-- folder of a file that the change writes or removes. `--no-scripts` is not given
pub record IsTriggerDueAndNotSkipped (wishes : ChangeWishes) (change : FileChange) (files : Files)
    (name : List ℕ) : Type 0 where
  -- `--no-scripts` is not given
  pub asked : wishes.no_scripts ≡ false
  -- a package after the change, of this name
  pub member : Member
  pub located : IsIn member change.members
  pub named : member_name member ≡ name
  -- the package has a trigger script
  pub has : has_script_with_number member.pkg TRIGGER_SCRIPT ≡ true
  -- a trigger pattern of the package matches the folder of a touched file
  pub watches : HasPatternOfTouchedFolder change files member.pkg

-- ---- limits

-- the payload of a value exceeds a limit of the writer, first at these numbers of bytes and values
abbrev pub IsTooLargeFirstAtCounts : Plain → ℕ → ℕ → Type 0
IsTooLargeFirstAtCounts v bytes values =
    (counts_at_first_overflow v ≡ Some (bytes, values)) × (exceeds_a_limit (bytes, values) ≡ true)

-- the database after the change, with these members, exceeds a limit of the writer at these numbers of bytes and values
abbrev pub IsDatabaseTooLargeFirstAtCounts : List Member → ℕ → ℕ → Type 0
IsDatabaseTooLargeFirstAtCounts members bytes values =
    IsTooLargeFirstAtCounts (database_value members (owned_flags_of members)) bytes values

-- the new database fits the limits of the writer, and the intent of the change exceeds one at these numbers of bytes
-- and values
pub record IsOnlyIntentTooLargeFirstAtCounts (inputs : Inputs) (change : FileChange) (files : Files)
    (bytes values : ℕ) : Type 0 where
  -- the bytes of the new database, which fits the limits
  pub database : List ℕ
  pub fits : database_of change.members (owned_flags_of change.members) ≡ Ok database
  -- the value of the intent exceeds a limit, at these numbers of bytes and values
  pub passes : (let actions =
      intent_of_change inputs change files (database_and_world_after_change inputs database) in
      IsTooLargeFirstAtCounts (value_of_intent actions) bytes values)

-- what a change writes exceeds a limit of the writer: the new database, or, if that fits, the intent
abbrev pub IsDatabaseOrIntentTooLargeFirstAtCounts : Inputs → FileChange → Files → ℕ → ℕ → Type 0
IsDatabaseOrIntentTooLargeFirstAtCounts inputs change files bytes values =
    IsDatabaseTooLargeFirstAtCounts change.members bytes values
    ⊎ IsOnlyIntentTooLargeFirstAtCounts inputs change files bytes values

-- ---- each refusal

-- a refusal is true of the files that the packages after a change (`found`) would leave
abbrev pub IsFaultOfFiles : Inputs → ChangeWishes → Files → List MemberFound → Refusal → Type 0
IsFaultOfFiles inputs wishes files found (Reserved path) =
    IsFirstReservedAddedPath (found_members found) path
IsFaultOfFiles inputs wishes files found (PathClash path other) =
    IsFirstClash (name_change (packages_before_and_after_with_purge inputs wishes found) files) files
    (record { path = path; other = other })
IsFaultOfFiles inputs wishes files found (Owned path first second) =
    IsFirstContestedPath (found_members found) path first second
IsFaultOfFiles inputs wishes files found (TriggerNeeded name) =
    IsTriggerDueAndNotSkipped wishes (packages_before_and_after_with_purge inputs wishes found) files name
IsFaultOfFiles inputs wishes files found (ResultTooLarge bytes values) =
    IsDatabaseOrIntentTooLargeFirstAtCounts inputs
    (packages_before_and_after_with_purge inputs wishes found) files bytes values
IsFaultOfFiles inputs wishes files found other = ⊥

-- a refusal is true of a package that the change adds or removes
abbrev pub IsFaultOfPackage : Inputs → Replacement → ChangeWishes → Reads → Refusal → Type 0
IsFaultOfPackage inputs r wishes read (PackageMissing name version) =
    IsAddedPackageFileMissing inputs r read name version
IsFaultOfPackage inputs r wishes read (PackageBad name version cause) =
    IsAddedPackageFileBad inputs r read name version cause
IsFaultOfPackage inputs r wishes read (PackageDiffers name version field wanted found) =
    IsFileOfOtherPackage inputs r read name version field wanted found
IsFaultOfPackage inputs r wishes read (ScriptNeeded name script) =
    IsFirstScriptToRunForPackageChange inputs r wishes read name script
IsFaultOfPackage inputs r wishes read other = ⊥

-- a refusal of a change is true: of an added or removed package; or no such package is refused, and the files that the
-- packages after the change (`found`) would leave have this fault
abbrev pub IsFaultOfChange :
    Inputs → Replacement → ChangeWishes → Reads → Files → Refusal → Type 0
IsFaultOfChange inputs r wishes read files refusal =
    IsFaultOfPackage inputs r wishes read refusal
    ⊎ ((found : List MemberFound) × (members_after_change inputs r wishes read ≡ Ok found)
    × IsFaultOfFiles inputs wishes files found refusal)
