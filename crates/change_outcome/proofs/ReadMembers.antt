-- Packages that were read, as members.
use Rattle.std.proofs.Common.{◌≡◌, ℕ, zero, suc, ◌<◌, ◌≤◌, Bool, true, false, true≢false, List, [], ◌∷◌, map, length, Option, Some, None, Result, Ok, refl, sym, ap, ◌∙◌, subst, arith}
use Rattle.std.specs.Prelude.{is_some, option_and_then, option_map}
use Rattle.std.specs.List.{cons_option, slice_get}
use Rattle.adb_view.specs.Plain.{Plain}
use Rattle.base_core.specs.Tree.{TreeState}
use Rattle.change_outcome.specs.MembersAfter.{MemberFound, added_member_found, found_package_contents, members_after, found_members, kept_member_found}
use Rattle.change_outcome.specs.PackageFiles.{AddedPackage}
use Rattle.db_core.specs.Members.{AreMembersInNameOrder, Member, member_of_added, is_added, member_of_kept}
use Rattle.db_core.specs.declared.members.TheConstants.{MOST_MEMBERS}
use Rattle.dep_core.specs.Repositories.{Repository}
use Rattle.change_inputs.specs.make_info.Reads.{Reads}
use Rattle.package_changes.specs.Placed.{ReplacementWithSelectionAsPlaces, replacement_of}
use Rattle.change_outcome.specs.Arrivals.{AreMembersFoundFromOldPackagesAndReads, HavePlacesIfKept, CanBeMembers, IsTestedPackageWithContentsOfMember, IsMemberRead, IsPackageRead, HasPlaceIfKept, member_of_read_package, members_by_packages_before_and_reads, added_package_in_member_read}
use Rattle.package_verifier.specs.Tested.{tested_id, tested_value}
use Rattle.package_verifier.specs.declared.package.TestedPackage.{TestedPackage}
use Rattle.change_outcome.specs.declared.arrivals.MemberRead.{MemberRead}
use Rattle.change_outcome.specs.declared.arrivals.MemberRead.TheVariants.{Comes, Stays}
use Rattle.change_outcome.proofs.MembersInOrder.{members_few, members_rise}

module _ (h : List TreeState) (before : List Plain) where
  stays_as : (o : Option Plain) (m : MemberFound) → Some m ≡ option_map kept_member_found o → option_map member_of_kept o ≡ Some m.member
  stays_as None m is = absurd (cc)
  stays_as (Some pkg) m is = let same : m ≡ kept_member_found pkg = cc in ap (λ (x : MemberFound). Some x.member) (sym same)

  comes_as : (pkg : TestedPackage) (coming : AddedPackage) → IsPackageRead h pkg coming → member_of_added (tested_value pkg) (tested_id pkg) ≡ member_of_added coming.value coming.id
  comes_as pkg coming r =
      let e0 : tested_value pkg ≡ coming.value = r.tested.value ∙ sym (ap (λ (p : AddedPackage). p.value) r.is) in
      let e1 : tested_id pkg ≡ coming.id = r.tested.id ∙ sym (ap (λ (p : AddedPackage). p.id) r.is) in
      λ i. member_of_added (e0 i) (e1 i)

  one_read : (r : MemberRead) (m : MemberFound) → IsMemberRead h before r m → member_of_read_package before r ≡ Some m.member
  one_read (Stays place) m is = stays_as (slice_get before place) m is
  one_read (Comes pkg) m (coming, r, is) = ap Some (comes_as pkg coming r ∙ sym (ap (λ (x : MemberFound). x.member) is))

  pub all_read : (reads : List MemberRead) (found : List MemberFound) → AreMembersFoundFromOldPackagesAndReads h before reads found → members_by_packages_before_and_reads before reads ≡ found_members found
  all_read [] [] are = refl
  all_read [] (m ∷ found) are = absurd are
  all_read (r ∷ reads) [] are = absurd are
  all_read (r ∷ reads) (m ∷ found) are =
      ap (λ o. cons_option o (members_by_packages_before_and_reads before reads)) (one_read r m are.0) ∙ ap (λ z. m.member ∷ z) (all_read reads found are.1)

  as_many : (reads : List MemberRead) (found : List MemberFound) → AreMembersFoundFromOldPackagesAndReads h before reads found → length reads ≡ length found
  as_many [] [] are = refl
  as_many [] (m ∷ found) are = absurd are
  as_many (r ∷ reads) [] are = absurd are
  as_many (r ∷ reads) (m ∷ found) are = ap suc (as_many reads found are.1)

  within : {X : Type 0} (xs : List X) (i : ℕ) (x : X) → slice_get xs i ≡ Some x → i < length xs
  within [] i x is = absurd (cc)
  within (y ∷ xs) zero x is = omega arith
  within (y ∷ xs) (suc i) x is = let less = within xs i x is in omega (arith, less)

  one_placed : (r : MemberRead) (m : MemberFound) → IsMemberRead h before r m → HasPlaceIfKept before r
  one_placed (Stays place) m is = go (slice_get before place) refl is
    where
      go : (o : Option Plain) → slice_get before place ≡ o → Some m ≡ option_map kept_member_found o → place < length before
      go None e is = absurd (cc)
      go (Some pkg) e is = within before place pkg e
  one_placed (Comes pkg) m is = tt

  all_placed : (reads : List MemberRead) (found : List MemberFound) → AreMembersFoundFromOldPackagesAndReads h before reads found → HavePlacesIfKept before reads
  all_placed [] [] are = tt
  all_placed [] (m ∷ found) are = absurd are
  all_placed (r ∷ reads) [] are = absurd are
  all_placed (r ∷ reads) (m ∷ found) are = (one_placed r m are.0, all_placed reads found are.1)

  pub file_found : (reads : List MemberRead) (found : List MemberFound) → AreMembersFoundFromOldPackagesAndReads h before reads found → (place : ℕ) (pkg : TestedPackage) → slice_get reads place ≡ Some (Comes pkg) → IsTestedPackageWithContentsOfMember h found place pkg
  file_found [] [] are place pkg here = absurd (cc)
  file_found [] (m ∷ found) are place pkg here = absurd are
  file_found (r ∷ reads) [] are place pkg here = absurd are
  file_found (r ∷ reads) (m ∷ found) are zero pkg here =
      let same : r ≡ Comes pkg = cc in
      go (subst (λ z. IsMemberRead h before z m) same are.0)
    where
      go : (coming : AddedPackage) × IsPackageRead h pkg coming × (m ≡ added_member_found coming) → IsTestedPackageWithContentsOfMember h (m ∷ found) 0 pkg
      go (coming, r, is) = record {
        file = r.file;
        located = r.located;
        tested = r.tested;
        contents = ap (λ (x : MemberFound). x.contents) is ∙ ap (λ (x : AddedPackage). x.contents) r.is;
      }
  file_found (r ∷ reads) (m ∷ found) are (suc place) pkg here =
      let more = file_found reads found are.1 place pkg here in
      record { file = more.file; located = more.located; tested = more.tested; contents = more.contents }

pub can_be : (h : List TreeState) (p : ReplacementWithSelectionAsPlaces) (read : Reads) (repositories : List Repository) (no_scripts : Bool) (reads : List MemberRead) (found : List MemberFound) → members_after (replacement_of p) read repositories no_scripts ≡ Ok found → AreMembersFoundFromOldPackagesAndReads h p.before reads found
    → length p.pool.candidates ≤ MOST_MEMBERS → CanBeMembers p.before reads
can_be h p read repositories no_scripts reads found is are few = record {
  placed = all_placed h p.before reads found are;
  in_order = subst AreMembersInNameOrder (sym (all_read h p.before reads found are)) (members_rise (replacement_of p) read repositories no_scripts found is);
  few =
      (let many = as_many h p.before reads found are in
      let most = members_few p read repositories no_scripts found is in
      omega (arith, many, most, few));
}

-- ---- the package at a place

comes_here : (o : Option MemberRead) (pkg : TestedPackage) → option_and_then added_package_in_member_read o ≡ Some pkg → o ≡ Some (Comes pkg)
comes_here None pkg is = absurd (cc)
comes_here (Some (Stays place)) pkg is = absurd (cc)
comes_here (Some (Comes p)) pkg is = let same : p ≡ pkg = cc in ap (λ z. Some (Comes z)) same

pub file_of_package : (h : List TreeState) (before : List Plain) (reads : List MemberRead) (found : List MemberFound) → AreMembersFoundFromOldPackagesAndReads h before reads found → (place : ℕ) (pkg : TestedPackage) → option_and_then added_package_in_member_read (slice_get reads place) ≡ Some pkg → IsTestedPackageWithContentsOfMember h found place pkg
file_of_package h before reads found are place pkg here = file_found h before reads found are place pkg (comes_here (slice_get reads place) pkg here)

no_stay : (o : Option Plain) (m : MemberFound) → Some m ≡ option_map kept_member_found o → is_added m.member ≡ true → ⊥
no_stay None m is comes = cc
no_stay (Some pkg) m is comes =
    let same : m ≡ kept_member_found pkg = cc in
    let stays : is_added m.member ≡ false = ap (λ (x : MemberFound). is_added x.member) same in
    true≢false (sym comes ∙ stays)

pub package_comes : (h : List TreeState) (before : List Plain) (reads : List MemberRead) (found : List MemberFound) → AreMembersFoundFromOldPackagesAndReads h before reads found → (place : ℕ) (m : Member) → slice_get (found_members found) place ≡ Some m → is_added m ≡ true → is_some (option_and_then added_package_in_member_read (slice_get reads place)) ≡ true
package_comes h before [] [] are place m here comes = absurd (cc)
package_comes h before [] (x ∷ found) are place m here comes = absurd are
package_comes h before (r ∷ reads) [] are place m here comes = absurd are
package_comes h before (Stays i ∷ reads) (x ∷ found) are zero m here comes =
    let same : x.member ≡ m = cc in absurd (no_stay (slice_get before i) x are.0 (ap is_added same ∙ comes))
package_comes h before (Comes pkg ∷ reads) (x ∷ found) are zero m here comes = refl
package_comes h before (r ∷ reads) (x ∷ found) are (suc place) m here comes = package_comes h before reads found are.1 place m here comes
