-- How the packages after a change, as they were read, relate to those that the definition *members_after* of
-- `change_outcome` finds. `before` are the packages of the database before the change. The rules are in
-- `docs/commands.md`, "`add` and `del`", part "What is read"; the term *arrival* in `docs/names.md`, "A change of what
-- is installed".
use Rattle.std.specs.Prelude.{◌≡◌, ◌<◌, ◌≤◌, ℕ, List, [], ◌∷◌, length, Option, Some, None, option_map, slice_get}
use Rattle.std.specs.List.{filter_map}
use Rattle.adb_view.specs.Plain.{Plain}
use Rattle.base_core.specs.Tree.{TreeState}
use Rattle.change_inputs.specs.Answers.{IsFileFoundInTree}
use Rattle.change_outcome.specs.MembersAfter.{MemberFound, added_member_found, found_package_contents, kept_member_found}
use Rattle.change_outcome.specs.PackageFiles.{AddedPackage, package_in_file}
use Rattle.db_core.specs.Members.{AreMembersInNameOrder, Member, member_of_added, member_of_kept}
use Rattle.db_core.specs.declared.members.TheConstants.{MOST_MEMBERS}
use Rattle.package_verifier.specs.pkg_core.Contents.{contents_in}
use Rattle.package_verifier.specs.pkg_core.Whole.{files_read_from_package}
use Rattle.package_verifier.specs.Tested.{IsTestedOf, tested_id, tested_name, tested_value}
use Rattle.package_verifier.specs.declared.package.TestedPackage.{TestedPackage}
use Rattle.change_outcome.specs.declared.arrivals.Arrivals.{Arrivals}
use Rattle.change_outcome.specs.declared.arrivals.MemberRead.{MemberRead}
use Rattle.change_outcome.specs.declared.arrivals.MemberRead.TheVariants.{Comes, Stays}

-- the package `pkg` that was read is `coming`, the package in a file that passed its tests; on an observable tree, this
-- file is the one under the name that was read
pub record IsPackageRead (history : List TreeState) (pkg : TestedPackage)
    (coming : AddedPackage) : Type 0 where
  -- the bytes of the package's file
  pub file : List ℕ
  -- on an observable tree, the file is under the name that was read
  pub located : IsFileFoundInTree history (tested_name pkg) (Some file)
  -- the file passed all tests, and the package was read from it
  pub tested : IsTestedOf (tested_name pkg) file pkg
  -- the added package is the one in the file
  pub is : coming ≡ package_in_file file

-- a package after the change, as it was read, is the found package `m`: a kept package is that of the database at its
-- place, and an added one is that of the file which was read
abbrev pub IsMemberRead : List TreeState → List Plain → MemberRead → MemberFound → Type 0
IsMemberRead history before (Stays place) m =
    Some m ≡ option_map kept_member_found (slice_get before place)
IsMemberRead history before (Comes pkg) m =
    (coming : AddedPackage) × IsPackageRead history pkg coming × (m ≡ added_member_found coming)

-- the packages as they were read are the found packages, one by one in the same order
abbrev pub AreMembersFoundFromOldPackagesAndReads :
    List TreeState → List Plain → List MemberRead → List MemberFound → Type 0
AreMembersFoundFromOldPackagesAndReads history before [] [] = Unit {0}
AreMembersFoundFromOldPackagesAndReads history before [] (m ∷ found) = ⊥
AreMembersFoundFromOldPackagesAndReads history before (r ∷ reads) [] = ⊥
AreMembersFoundFromOldPackagesAndReads history before (r ∷ reads) (m ∷ found) =
    IsMemberRead history before r m × AreMembersFoundFromOldPackagesAndReads history before reads found

-- the packages after the change as contracts see them: of each kept one its place in the database, and of each added
-- one what was read
abbrev pub arrivals_seen : Arrivals → List MemberRead
arrivals_seen arrivals = arrivals.members.items

-- ---- without their files

-- a package as it was read, as a member; None if it is kept and its place is none of the database
abbrev pub member_of_read_package : List Plain → MemberRead → Option Member
member_of_read_package before (Stays place) = option_map member_of_kept (slice_get before place)
member_of_read_package before (Comes pkg) = Some (member_of_added (tested_value pkg) (tested_id pkg))

-- the packages as they were read, as members, in their order
abbrev pub members_by_packages_before_and_reads : List Plain → List MemberRead → List Member
members_by_packages_before_and_reads before reads = filter_map (member_of_read_package before) reads

-- ---- as members

-- if the package is kept, its place is one of the database
abbrev pub HasPlaceIfKept : List Plain → MemberRead → Type 0
HasPlaceIfKept before (Stays place) = place < length before
HasPlaceIfKept before (Comes pkg) = Unit {0}

-- each kept package of the list has a place in the database
abbrev pub HavePlacesIfKept : List Plain → List MemberRead → Type 0
HavePlacesIfKept before [] = Unit {0}
HavePlacesIfKept before (r ∷ reads) = HasPlaceIfKept before r × HavePlacesIfKept before reads

-- packages that were read can be members: each kept one has a place in the database, they are in byte
-- order of names, and are few enough
pub record CanBeMembers (before : List Plain) (reads : List MemberRead) : Type 0 where
  -- each kept package has a place in the database
  pub placed : HavePlacesIfKept before reads
  -- the packages are in byte order of names, each name once
  pub in_order : AreMembersInNameOrder (members_by_packages_before_and_reads before reads)
  -- there are no more of them than members are allowed
  pub few : length reads ≤ MOST_MEMBERS

-- what was read of an added package; none for a kept one
abbrev pub added_package_in_member_read : MemberRead → Option TestedPackage
added_package_in_member_read (Stays place) = None
added_package_in_member_read (Comes pkg) = Some pkg

-- The added package `pkg` is that of a file that passed its tests. The contents of this file are those found for the
-- member at `place` (an index) of the found packages.
pub record IsTestedPackageWithContentsOfMember (history : List TreeState) (found : List MemberFound)
    (place : ℕ)
    (pkg : TestedPackage) : Type 0 where
  -- the bytes of the package's file
  pub file : List ℕ
  -- on an observable tree, the file is under the name that was read
  pub located : IsFileFoundInTree history (tested_name pkg) (Some file)
  -- the file passed all tests, and the package was read from it
  pub tested : IsTestedOf (tested_name pkg) file pkg
  -- the contents of the files that were found for the member are those in this file
  pub contents : found_package_contents found place ≡ contents_in (files_read_from_package file)
