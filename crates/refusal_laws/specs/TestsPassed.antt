-- What holds of the packages after a change that has passed some of its tests: tests 1 to 3 of `docs/commands.md`,
-- "What a change does with files", part "Tests", and reasons 11 and 12 of "`add` and `del`", part "What is refused".
use Rattle.std.specs.Prelude.{◌≡◌, ℕ, true, false, List, is_some}
use Rattle.outcome.specs.adb_fields.FirstPair.{IsIn}
use Rattle.outcome.specs.adb_schema.Reserved.{is_reserved}
use Rattle.base_core.specs.Files.{Files}
use Rattle.outcome.specs.own_core.FileChange.{FileChange}
use Rattle.outcome.specs.own_core.NamesAfter.{added_paths, name_change}
use Rattle.outcome.specs.change_outcome.ChangeOutcome.{ChangeWishes}
use Rattle.outcome.specs.change_outcome.PackageFiles.{has_script_with_number}
use Rattle.report_core.specs.Numbers.{TRIGGER_SCRIPT}
use Rattle.outcome.specs.db_core.Members.{Listing, Member, listings_of_members}
use Rattle.outcome.specs.file_owners.Owners.{owner_of_path}
use Rattle.outcome.specs.path_clashes.Clash.{HasNoClash}
use Rattle.report_core.specs.declared.refusal.Refusal.{Refusal}
use Rattle.report_core.specs.declared.refusal.Refusal.TheVariants.{Owned, PathClash, ResultTooLarge, TriggerNeeded}
use Rattle.refusal_laws.specs.ChangeFaults.{HasPatternOfTouchedFolder}

-- no path that an added package among these members lists is reserved for apk itself
abbrev pub AreAddedPathsUnreserved : List Member → Type 0
AreAddedPathsUnreserved members =
    (path : List ℕ) → IsIn path (added_paths members) → is_reserved path ≡ false

-- each path that one of these members lists has an owner
abbrev pub EachListedPathHasOwner : List Member → Type 0
EachListedPathHasOwner members =
    (l : Listing) → IsIn l (listings_of_members members)
    → is_some (owner_of_path members l.path) ≡ true

-- no trigger of a package after the change is due, or `--no-scripts` is given
abbrev pub HasNoDueTrigger : ChangeWishes → FileChange → Files → Type 0
HasNoDueTrigger wishes change files =
    wishes.no_scripts ≡ false → (m : Member) → IsIn m change.members
    → has_script_with_number m.pkg TRIGGER_SCRIPT ≡ true → HasPatternOfTouchedFolder change files m.pkg → ⊥

-- the first two tests of paths are passed: no path of an added package is reserved, and no names clash
abbrev pub HasNoReservedOrClashingPath : FileChange → Files → Type 0
HasNoReservedOrClashingPath change files =
    AreAddedPathsUnreserved change.members × HasNoClash (name_change change files) files

-- all three tests of paths are passed: those of *HasNoReservedOrClashingPath*, and each listed path has an owner
abbrev pub HasNoReservedClashingOrUnownedPath : FileChange → Files → Type 0
HasNoReservedClashingOrUnownedPath change files =
    HasNoReservedOrClashingPath change files × EachListedPathHasOwner change.members

-- a change passes all tests of its files (of paths and triggers), except those of the limits of what is written
abbrev pub PassesChangeTestsExceptLimits : ChangeWishes → FileChange → Files → Type 0
PassesChangeTestsExceptLimits wishes change files =
    HasNoReservedClashingOrUnownedPath change files × HasNoDueTrigger wishes change files

-- the tests before this refusal of a change's files were passed
abbrev pub HasPassedFileTestsBeforeRefusal : ChangeWishes → FileChange → Files → Refusal → Type 0
HasPassedFileTestsBeforeRefusal wishes change files (PathClash path other) =
    AreAddedPathsUnreserved change.members
HasPassedFileTestsBeforeRefusal wishes change files (Owned path first second) =
    HasNoReservedOrClashingPath change files
HasPassedFileTestsBeforeRefusal wishes change files (TriggerNeeded name) =
    HasNoReservedClashingOrUnownedPath change files
HasPassedFileTestsBeforeRefusal wishes change files (ResultTooLarge bytes values) =
    PassesChangeTestsExceptLimits wishes change files
HasPassedFileTestsBeforeRefusal wishes change files other = Unit {0}
