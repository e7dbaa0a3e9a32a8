-- A package that was found and is not what it was when it was tested.
use Rattle.std.proofs.Common.{◌≡◌, ℕ, zero, suc, List, [], ◌∷◌, Contains, Option, Some, arith, refl, sym, ap, subst, ◌∙◌}
use Rattle.std.specs.Prelude.{slice_get, option_and_then}
use Rattle.std.proofs.lemmas.Option.{same_Some}
use Rattle.adb_view.specs.Plain.{Plain}
use Rattle.change_outcome.specs.Arrivals.{AreMembersFoundFromOldPackagesAndReads, IsMemberRead, IsPackageRead, added_package_in_member_read}
use Rattle.change_outcome.specs.declared.arrivals.MemberRead.{MemberRead}
use Rattle.change_outcome.specs.declared.arrivals.MemberRead.TheVariants.{Comes, Stays}
use Rattle.base_core.specs.Tree.{TreeState}
use Rattle.base_core.specs.declared.cause.Cause.{Cause}
use Rattle.change_report.specs.change_outcome.MembersAfter.{MemberFound, added_member_found, found_members}
use Rattle.change_report.specs.change_outcome.PackageFiles.{AddedPackage}
use Rattle.change_report.specs.db_core.Members.{Member}
use Rattle.journal_staging.specs.package_verifier.Tested.{IsTestedOf}
use Rattle.journal_staging.specs.package_verifier.declared.package.TestedPackage.{TestedPackage}
use Rattle.journal_staging.specs.Spoiled.{IsFileWithOnlyContentsSpoiled}

-- ---- what is found at a place

contains_at : {X : Type 0} (xs : List X) (i : ℕ) (x : X) → slice_get xs i ≡ Some x → Contains xs x
contains_at [] i x at = absurd (cc (at))
contains_at (y ∷ ys) zero x at = (0, omega arith, same_Some y x at)
contains_at (y ∷ ys) (suc i) x at = let (k, less, here) = contains_at ys i x at in (suc k, omega (arith, less), here)

found_at : (found : List MemberFound) (place : ℕ) (m : Member) → slice_get (found_members found) place ≡ Some m → (one : MemberFound) × (slice_get found place ≡ Some one) × (one.member ≡ m)
found_at [] place m at = absurd (cc (at))
found_at (x ∷ xs) zero m at = (x, refl, same_Some x.member m at)
found_at (x ∷ xs) (suc place) m at = found_at xs place m at

-- ---- it is that of the package that was read for it

record ReadsOldOrReplaced (history : List TreeState) (pkg : TestedPackage) (one : MemberFound) : Type 0 where
  coming : AddedPackage
  read : IsPackageRead history pkg coming
  is : one ≡ added_member_found coming

comes_here : (r : MemberRead) (pkg : TestedPackage) → added_package_in_member_read r ≡ Some pkg → r ≡ Comes pkg
comes_here (Stays place) pkg is = absurd (cc (is))
comes_here (Comes p) pkg is = let same : p ≡ pkg = cc in ap (λ z. Comes z) same

read_as : (history : List TreeState) (before : List Plain) (reads : List MemberRead) (found : List MemberFound) → AreMembersFoundFromOldPackagesAndReads history before reads found → (place : ℕ) (pkg : TestedPackage) (one : MemberFound) → option_and_then added_package_in_member_read (slice_get reads place) ≡ Some pkg → slice_get found place ≡ Some one
    → ReadsOldOrReplaced history pkg one
read_as history before [] found are place pkg one here at = absurd (cc (here))
read_as history before (r ∷ reads) [] are place pkg one here at = absurd are
read_as history before (r ∷ reads) (x ∷ found) are zero pkg one here at =
    let (coming, read, is) = subst (λ (z : MemberRead). IsMemberRead history before z x) (comes_here r pkg here) are.0 in
    record { coming = coming; read = read; is = sym (same_Some x one at) ∙ is }
read_as history before (r ∷ reads) (x ∷ found) are (suc place) pkg one here at = read_as history before reads found are.1 place pkg one here at

-- ---- another file has its values

pub record IsFoundSpoiled (found : List MemberFound) (m : Member) (cause : Cause) : Type 0 where
  pub one : MemberFound
  pub among : Contains found one
  pub is : one.member ≡ m
  pub tested : List ℕ
  pub read : one.file ≡ Some tested
  pub file : List ℕ
  pub spoiled : IsFileWithOnlyContentsSpoiled tested file cause

pub found_spoiled : (history : List TreeState) (before : List Plain) (reads : List MemberRead) (found : List MemberFound) (place : ℕ) (m : Member) (pkg : TestedPackage) (cause : Cause) → AreMembersFoundFromOldPackagesAndReads history before reads found → slice_get (found_members found) place ≡ Some m
    → option_and_then added_package_in_member_read (slice_get reads place) ≡ Some pkg → ((name tested : List ℕ) → IsTestedOf name tested pkg → (file : List ℕ) × IsFileWithOnlyContentsSpoiled tested file cause) → IsFoundSpoiled found m cause
found_spoiled history before reads found place m pkg cause are at here spoils =
    let (one, there, is) = found_at found place m at in
    let r = read_as history before reads found are place pkg one here there in
    let (file, spoiled) = spoils _ r.read.file r.read.tested in
    record {
      one = one;
      among = contains_at found place one there;
      is = is;
      tested = r.read.file;
      read = ap (λ (x : MemberFound). x.file) r.is ∙ ap (λ (x : AddedPackage). Some x.file) r.read.is;
      file = file;
      spoiled = spoiled;
    }
