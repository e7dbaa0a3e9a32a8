-- The contents of the packages that a change adds are those that their entries list.
use Rattle.std.proofs.Common.{◌≡◌, ◌∙◌, ℕ, zero, suc, ◌+◌, Bool, true, false, List, [], ◌∷◌, length, Option, Some, None, Result, Ok, Err, refl, ap, sym, subst, true≢false}
use Rattle.std.specs.Prelude.{not, slice_get, option_map, bytes_eq, if◌then◌else◌}
use Rattle.std.specs.List.{cons_option, find}
use Rattle.audit_core.specs.adb_fields.Repeated.{package_name}
use Rattle.adb_view.specs.Plain.{Plain}
use Rattle.base_core.specs.declared.cause.Cause.{Cause}
use Rattle.engine_core.specs.candidate_core.Candidates.{Candidate, is_same_id_by_nonempty_prefix}
use Rattle.engine_core.specs.change_inputs.Chains.{and_then}
use Rattle.engine_core.specs.change_inputs.Inputs.{first_index_read_number}
use Rattle.engine_core.proofs.change_outcome.Made.{and_then_ok}
use Rattle.engine_core.specs.change_outcome.MembersAfter.{MemberFound, added_package_by_path, added_member_found, found_package_contents, members_after, found_members, member_of_name_after, member_of_name_by_change, member_of_name_by_selected, added_member_unless_script_needed, no_member_unless_removal_needs_script, members_of_names_after, kept_member_found}
use Rattle.engine_core.specs.change_outcome.PackageFiles.{AddedPackage, first_script_number_of_package, package_file_path_of_candidate, added_package_or_refusal, package_in_file, scripts_of_change, package_unless_other_than_candidate, unless_script_number, package_unless_bad_or_different, unless_script_needed}
use Rattle.audit_core.specs.db_core.Members.{Member, is_added}
use Rattle.audit_core.specs.db_core.Packages.{is_package_named}
use Rattle.dep_core.specs.Repositories.{Repository}
use Rattle.engine_core.specs.file_owners.Replaces.{package_version_text}
use Rattle.make_core.specs.make_info.Reads.{Reads}
use Rattle.engine_core.specs.package_changes.Changes.{Replacement, change_of_name, is_candidate_named, names_before_and_selected, candidate_version_text}
use Rattle.make_core.specs.pkg_core.Whole.{package_fault}
use Rattle.make_core.proofs.pkg_core.Digests.{HasFirstValue}
use Rattle.report_core.specs.Reports.{Change}
use Rattle.report_core.specs.declared.refusal.Refusal.{Refusal}
use Rattle.definition_laws.proofs.audits.TestedContents.{AreListedContents, tested_listed}

-- a member that comes has the contents that its package lists
abbrev pub HasListed : MemberFound → Type 0
HasListed f = is_added f.member ≡ true → AreListedContents f.member.pkg f.contents

abbrev IfListed : Option MemberFound → Type 0
IfListed None = Unit {0}
IfListed (Some f) = HasListed f

abbrev AllListed : List MemberFound → Type 0
AllListed [] = Unit {0}
AllListed (f ∷ fs) = HasListed f × AllListed fs

abbrev kept_package : Result AddedPackage Refusal → Result AddedPackage Refusal
kept_package r = r

module _ (told : HasFirstValue) (read : Reads) where
  different_ok : (c : Candidate) (pkg p : AddedPackage) → package_unless_other_than_candidate c pkg ≡ Ok p → p ≡ pkg
  different_ok c pkg p e = by_tests _ _ _ (is_same_id_by_nonempty_prefix c.id pkg.id) (bytes_eq c.name (package_name pkg.value)) (bytes_eq (candidate_version_text c) (package_version_text pkg.value)) e
    where
      by_tests : (x y z : Refusal) (a b v : Bool) → kept_package (if not a then Err x else if not b then Err y else if not v then Err z else Ok pkg) ≡ Ok p → p ≡ pkg
      by_tests x y z true true true e = (let same : pkg ≡ p = cc in sym same)
      by_tests x y z true true false e = absurd (cc (e))
      by_tests x y z true false v e = absurd (cc (e))
      by_tests x y z false b v e = absurd (cc (e))

  file_ok : (c : Candidate) (file : List ℕ) (pkg : AddedPackage) → added_package_or_refusal c (Some file) ≡ Ok pkg → AreListedContents pkg.value pkg.contents
  file_ok c file pkg e = by_fault (package_fault file) refl e
    where
      by_fault : (fault : Option Cause) → package_fault file ≡ fault → package_unless_bad_or_different c fault (package_in_file file) ≡ Ok pkg → AreListedContents pkg.value pkg.contents
      by_fault None sound e =
          subst (λ (p : AddedPackage). AreListedContents p.value p.contents) (sym (different_ok c (package_in_file file) pkg e)) (tested_listed told file sound)
      by_fault (Some cause) sound e = absurd (cc (e))

  path_ok : (n : ℕ) (c : Candidate) (path : Option (List ℕ)) (pkg : AddedPackage) → added_package_by_path read n c path ≡ Ok pkg → AreListedContents pkg.value pkg.contents
  path_ok n c None pkg e = absurd (cc (e))
  path_ok n c (Some path) pkg e = by_read (read n path) e
    where
      by_read : (o : Option (List ℕ)) → added_package_or_refusal c o ≡ Ok pkg → AreListedContents pkg.value pkg.contents
      by_read None e = absurd (cc (e))
      by_read (Some file) e = file_ok c file pkg e

  script_ok : {A : Type 0} (no_scripts : Bool) (name : List ℕ) (pkg : Plain) (numbers : List ℕ) (a b : A) → unless_script_needed no_scripts name pkg numbers a ≡ Ok b → a ≡ b
  script_ok true name pkg numbers a b e = (cc (e))
  script_ok false name pkg numbers a b e = by_number (first_script_number_of_package pkg numbers) e
    where
      by_number : (o : Option ℕ) → unless_script_number name o a ≡ Ok b → a ≡ b
      by_number None e = (cc (e))
      by_number (Some number) e = absurd (cc (e))

  comes_ok : (repositories : List Repository) (no_scripts : Bool) (n : ℕ) (name : List ℕ) (change : Change) (c : Candidate) (o : Option MemberFound)
      → added_member_unless_script_needed read repositories no_scripts n name change c ≡ Ok o → IfListed o
  comes_ok repositories no_scripts n name change c o e =
      let pkg = and_then_ok (added_package_by_path read n c (package_file_path_of_candidate repositories c)) (λ pkg.
      unless_script_needed no_scripts name pkg.value (scripts_of_change change) (Some (added_member_found pkg))) o e in
      subst IfListed (script_ok no_scripts name pkg.0.value (scripts_of_change change) (Some (added_member_found pkg.0)) o pkg.2)
      (λ comes. path_ok n c (package_file_path_of_candidate repositories c) pkg.0 pkg.1)

  goes_ok : (no_scripts : Bool) (name : List ℕ) (change : Change) (before : Option Plain) (o : Option MemberFound) → no_member_unless_removal_needs_script no_scripts name change before ≡ Ok o → IfListed o
  goes_ok no_scripts name change None o e = let same : None ≡ o = cc in subst IfListed same tt
  goes_ok no_scripts name change (Some pkg) o e = subst IfListed (script_ok no_scripts name pkg (scripts_of_change change) None o e) tt

  stays_ok : (o : Option Plain) → IfListed (option_map kept_member_found o)
  stays_ok None = tt
  stays_ok (Some pkg) = λ comes. absurd (true≢false (sym comes))

  abbrev kept_found : Option MemberFound → Result (Option MemberFound) Refusal
  kept_found o = Ok o

  module _ (r : Replacement) (repositories : List Repository) (no_scripts : Bool) where
    selected_ok : (n : ℕ) (name : List ℕ) (change : Change) (old : Option Plain) (new : Option Candidate) (o : Option MemberFound)
        → member_of_name_by_selected read repositories no_scripts n name change old new ≡ Ok o → IfListed o
    selected_ok n name change old None o e = goes_ok no_scripts name change old o e
    selected_ok n name change old (Some c) o e = comes_ok repositories no_scripts n name change c o e

    changed_ok : (n : ℕ) (name : List ℕ) (change : Option Change) (old : Option Plain) (new : Option Candidate) (o : Option MemberFound)
        → member_of_name_by_change read repositories no_scripts n name change old new ≡ Ok o → IfListed o
    changed_ok n name None old new o e =
        let same : option_map kept_member_found old ≡ o = (let kept : kept_found (option_map kept_member_found old) ≡ kept_found o = e in cc) in
        subst IfListed same (stays_ok old)
    changed_ok n name (Some change) old new o e = selected_ok n name change old new o e

    one_more : (first : Option MemberFound) (fs : List MemberFound) → IfListed first → AllListed fs → AllListed (cons_option first fs)
    one_more None fs here are = are
    one_more (Some f) fs here are = (here, are)

    names_ok : (n : ℕ) (names : List (List ℕ)) (fs : List MemberFound) → members_of_names_after r read repositories no_scripts n names ≡ Ok fs → AllListed fs
    names_ok n [] fs e = let same : [] ≡ fs = cc in subst AllListed same tt
    names_ok n (name ∷ names) fs e =
        let first = and_then_ok (member_of_name_after r read repositories no_scripts n name) (λ first.
        and_then (members_of_names_after r read repositories no_scripts (suc n) names) (λ others.
        Ok (cons_option first others))) fs e in
        let others = and_then_ok (members_of_names_after r read repositories no_scripts (suc n) names) (λ others. Ok (cons_option first.0 others)) fs first.2 in
        let same : cons_option first.0 others.0 ≡ fs = (let last = others.2 in cc) in
        subst AllListed same
        (one_more first.0 others.0
        (changed_ok n name (change_of_name r name) (find (is_package_named name) r.before) (find (is_candidate_named name) r.selected) first.0 first.1)
        (names_ok (suc n) names others.0 others.1))

    found_listed : (fs : List MemberFound) → members_after r read repositories no_scripts ≡ Ok fs → AllListed fs
    unfolding members_after
    found_listed fs e = names_ok (first_index_read_number + length repositories) (names_before_and_selected r) fs e

    at_place : (fs : List MemberFound) (place : ℕ) (m : Member) → AllListed fs → slice_get (found_members fs) place ≡ Some m → is_added m ≡ true → AreListedContents m.pkg (found_package_contents fs place)
    at_place [] place m are e comes = absurd (cc (e))
    at_place (f ∷ fs) zero m are e comes =
        let same : f.member ≡ m = cc in
        subst (λ (k : Member). AreListedContents k.pkg f.contents) same (are.0 (ap is_added same ∙ comes))
    at_place (f ∷ fs) (suc place) m are e comes = at_place fs place m are.1 e comes

    pub contents_listed : (fs : List MemberFound) (place : ℕ) (m : Member) → members_after r read repositories no_scripts ≡ Ok fs → slice_get (found_members fs) place ≡ Some m → is_added m ≡ true
        → AreListedContents m.pkg (found_package_contents fs place)
    contents_listed fs place m e at comes = at_place fs place m (found_listed fs e) at comes
