-- Where the packages after a change are found, none that comes or goes has a fault.
use Rattle.std.proofs.Common.{◌≡◌, inl, inr, ◌∙◌, ℕ, zero, suc, ◌+◌, Bool, true, false, List, [], ◌∷◌, ◌++◌, length, map, Option, Some, None, Ok, ap, sym, subst, arith, true≢false}
use Rattle.std.specs.Prelude.{slice_get}
use Rattle.std.specs.List.{cons_option, find}
use Rattle.std.proofs.lemmas.Slice.Eq.{bytes_eq-Decides}
use Rattle.outcome.specs.adb_fields.Repeated.{package_name}
use Rattle.adb_view.specs.Plain.{Plain}
use Rattle.base_core.specs.declared.cause.Cause.{Cause}
use Rattle.base_core.proofs.Rising as Names
use Rattle.outcome.proofs.own_core.InOrder.{in_left, in_order}
use Rattle.outcome.specs.change_inputs.Chains.{and_then}
use Rattle.outcome.specs.change_inputs.Inputs.{Inputs, first_index_read_number}
use Rattle.outcome.specs.change_outcome.ChangeOutcome.{ChangeWishes, members_after_change}
use Rattle.outcome.specs.change_outcome.MembersAfter.{MemberFound, added_package_by_path, added_member_found, members_after, member_of_name_after, member_of_name_by_change, member_of_name_by_selected, added_member_unless_script_needed, no_member_unless_removal_needs_script, members_of_names_after}
use Rattle.outcome.specs.change_outcome.PackageFiles.{AddedPackage, first_script_number_of_package, package_file_path_of_candidate, added_package_or_refusal, package_in_file, scripts_of_change, unless_script_number, package_unless_bad_or_different, unless_script_needed}
use Rattle.outcome.specs.db_core.Packages.{is_package_named}
use Rattle.outcome.specs.make_info.Reads.{Reads}
use Rattle.outcome.specs.package_changes.Changes.{Replacement, change_of_name, is_candidate_named, names_before_and_selected}
use Rattle.outcome.specs.pkg_core.Whole.{package_fault}
use Rattle.outcome.specs.candidate_core.Candidates.{Candidate, is_same_id_by_nonempty_prefix}
use Rattle.report_core.specs.Reports.{Change}
use Rattle.report_core.specs.declared.refusal.Refusal.{Refusal}
use Rattle.report_core.specs.declared.refusal.Refusal.TheVariants.{PackageBad, PackageDiffers, PackageMissing, ScriptNeeded}
use Rattle.refusal_laws.specs.ChangeFaults.{IsFaultOfPackage}
use Rattle.refusal_laws.specs.AddedPackages.{IsSoundFileWithIdNameAndVersionOf, IsFileReadForAddedPackage, selected_candidate_of_name}
use Rattle.refusal_laws.specs.PackageFaults.{IsAddedOrRemoved, IsFirstOfIdNameVersionThatDiffers}
use Rattle.refusal_laws.proofs.Coming.{found_ok, path_is}
use Rattle.refusal_laws.proofs.Lists.{and_then_ok, found_in, in_mapped}

-- ---- lists

pub member_name_at_place : (xs : List (List ℕ)) (q : List ℕ) → Names.IsIn q xs → (i : ℕ) × (slice_get xs i ≡ Some q)
member_name_at_place [] q here = absurd here
member_name_at_place (x ∷ xs) q (inl is) = (zero, ap (λ (y : List ℕ). Some y) (sym is))
member_name_at_place (x ∷ xs) q (inr more) = let other = member_name_at_place xs q more in (suc other.0, other.1)

-- ---- files

not_other : (c : Candidate) (file : List ℕ) (field : ℕ) (wanted found : List ℕ) → IsSoundFileWithIdNameAndVersionOf c file → IsFirstOfIdNameVersionThatDiffers c (package_in_file file) field wanted found → ⊥
not_other c file field wanted found agrees (inl other) =
    true≢false (sym agrees.id ∙ (ap (λ w. is_same_id_by_nonempty_prefix w (package_in_file file).id) (sym other.1.0) ∙ (ap (is_same_id_by_nonempty_prefix wanted) (sym other.1.1) ∙ other.1.2)))
not_other c file field wanted found agrees (inr (inl other)) = other.2.2 (other.2.0 ∙ (sym agrees.name ∙ sym other.2.1))
not_other c file field wanted found agrees (inr (inr other)) = other.3.2 (other.3.0 ∙ (sym agrees.version ∙ sym other.3.1))

no_bad_file : (c : Candidate) (file : List ℕ) (cause : Cause) (pkg : AddedPackage) → package_fault file ≡ Some cause → added_package_or_refusal c (Some file) ≡ Ok pkg → ⊥
no_bad_file c file cause pkg fault e = refused (ap (λ o. package_unless_bad_or_different c o (package_in_file file)) (sym fault) ∙ e)
  where
    refused : package_unless_bad_or_different c (Some cause) (package_in_file file) ≡ Ok pkg → ⊥
    refused e = cc (e)

no_script : {A : Type 0} (no_scripts : Bool) (name : List ℕ) (pkg : Plain) (numbers : List ℕ) (a b : A) (script : ℕ) → no_scripts ≡ false → first_script_number_of_package pkg numbers ≡ Some script → unless_script_needed no_scripts name pkg numbers a ≡ Ok b → ⊥
no_script true name pkg numbers a b script asked first e = true≢false asked
no_script false name pkg numbers a b script asked first e = refused (first_script_number_of_package pkg numbers) first e
  where
    refused : (o : Option ℕ) → o ≡ Some script → unless_script_number name o a ≡ Ok b → ⊥
    refused None is e = cc (is)
    refused (Some number) is e = cc (e)

module _ (inputs : Inputs) (r : Replacement) (wishes : ChangeWishes) (read : Reads) (found : List MemberFound) (are : members_after_change inputs r wishes read ≡ Ok found) where
  abbrev first_read : ℕ
  first_read = first_index_read_number + length inputs.root.repositories

  -- ---- each name is found

  name_found_at : (n : ℕ) (names : List (List ℕ)) (fs : List MemberFound) (i : ℕ) (name : List ℕ) → members_of_names_after r read inputs.root.repositories wishes.no_scripts n names ≡ Ok fs → slice_get names i ≡ Some name
      → (o : Option MemberFound) × (member_of_name_after r read inputs.root.repositories wishes.no_scripts (n + i) name ≡ Ok o)
  name_found_at n [] fs i name e at = absurd (cc (at))
  name_found_at n (x ∷ names) fs zero name e at =
      let first = and_then_ok (member_of_name_after r read inputs.root.repositories wishes.no_scripts n x) (λ first.
      and_then (members_of_names_after r read inputs.root.repositories wishes.no_scripts (suc n) names) (λ others.
      Ok (cons_option first others))) fs e in
      let same : x ≡ name = cc in
      let k : n ≡ n + zero = omega arith in (
        first.0,
        subst (λ q. member_of_name_after r read inputs.root.repositories wishes.no_scripts (n + zero) q ≡ Ok first.0) same
            (subst (λ m. member_of_name_after r read inputs.root.repositories wishes.no_scripts m x ≡ Ok first.0) k first.1),
      )
  name_found_at n (x ∷ names) fs (suc i) name e at =
      let first = and_then_ok (member_of_name_after r read inputs.root.repositories wishes.no_scripts n x) (λ first.
      and_then (members_of_names_after r read inputs.root.repositories wishes.no_scripts (suc n) names) (λ others.
      Ok (cons_option first others))) fs e in
      let others = and_then_ok (members_of_names_after r read inputs.root.repositories wishes.no_scripts (suc n) names) (λ others. Ok (cons_option first.0 others)) fs first.2 in
      let behind = name_found_at (suc n) names others.0 i name others.1 at in
      let k : suc n + i ≡ n + suc i = omega arith in
      (behind.0, subst (λ m. member_of_name_after r read inputs.root.repositories wishes.no_scripts m name ≡ Ok behind.0) k behind.1)

  found_at : (place : ℕ) (name : List ℕ) → slice_get (names_before_and_selected r) place ≡ Some name → (o : Option MemberFound) × (member_of_name_after r read inputs.root.repositories wishes.no_scripts (first_read + place) name ≡ Ok o)
  unfolding members_after
  found_at place name at = name_found_at first_read (names_before_and_selected r) found place name are at

  -- ---- one that comes

  comes_so : (place : ℕ) (name : List ℕ) (change : Change) (c : Candidate) → slice_get (names_before_and_selected r) place ≡ Some name → change_of_name r name ≡ Some change → selected_candidate_of_name r name ≡ Some c
      → (o : Option MemberFound) × (added_member_unless_script_needed read inputs.root.repositories wishes.no_scripts (first_read + place) name change c ≡ Ok o)
  comes_so place name change c at becomes selected =
      let o = found_at place name at in (
        o.0,
        ap (λ s. member_of_name_by_selected read inputs.root.repositories wishes.no_scripts (first_read + place) name change (find (is_package_named name) r.before) s) (sym selected)
            ∙ (ap (λ ch. member_of_name_by_change read inputs.root.repositories wishes.no_scripts (first_read + place) name ch (find (is_package_named name) r.before) (find (is_candidate_named name) r.selected)) (sym becomes) ∙ o.1),
      )

  -- the package in its file is found, and none of its scripts would run
  pub record IsFine (name : List ℕ) (change : Change) (c : Candidate) (file : Option (List ℕ)) : Type 0 where
    pub pkg : AddedPackage
    pub is : added_package_or_refusal c file ≡ Ok pkg
    pub after : Option MemberFound
    pub scripts : unless_script_needed wishes.no_scripts name pkg.value (scripts_of_change change) (Some (added_member_found pkg)) ≡ Ok after

  fine : (name version : List ℕ) (file : Option (List ℕ)) (is : IsFileReadForAddedPackage inputs r read name version file) → IsFine name is.change is.candidate file
  fine name version file is =
      let comes = comes_so is.place name is.change is.candidate is.is_place is.becomes is.selected in
      let pkg = and_then_ok (added_package_by_path read (first_read + is.place) is.candidate (package_file_path_of_candidate inputs.root.repositories is.candidate)) (λ pkg.
      unless_script_needed wishes.no_scripts name pkg.value (scripts_of_change is.change) (Some (added_member_found pkg))) comes.0 comes.1 in
      record {
        pkg = pkg.0;
        is = ap (added_package_or_refusal is.candidate) (sym is.is_file) ∙ (sym (path_is read (first_read + is.place) is.candidate (package_file_path_of_candidate inputs.root.repositories is.candidate)) ∙ pkg.1);
        after = comes.0;
        scripts = pkg.2;
      }

  -- ---- scripts

  no_script_of : (name : List ℕ) (script : ℕ) (pkg : Plain) (change : Change) → wishes.no_scripts ≡ false → IsAddedOrRemoved inputs r read name pkg → change_of_name r name ≡ Some change
      → first_script_number_of_package pkg (scripts_of_change change) ≡ Some script → ⊥
  no_script_of name script pkg change asked (inl (coming, brought, value)) becomes first =
      let is = fine name brought.version (Some brought.file) brought.is_read in
      let ok = found_ok brought.is_read.candidate brought.file is.pkg is.is in
      let same : pkg ≡ is.pkg.value = value ∙ ap (λ (p : AddedPackage). p.value) (brought.is_package ∙ sym ok.1) in
      let one : change ≡ brought.is_read.change = (let both = sym becomes ∙ brought.is_read.becomes in cc) in
      no_script wishes.no_scripts name is.pkg.value (scripts_of_change brought.is_read.change) (Some (added_member_found is.pkg)) is.after script asked
      (ap (λ p. first_script_number_of_package p (scripts_of_change brought.is_read.change)) (sym same) ∙ (ap (λ (ch : Change). first_script_number_of_package pkg (scripts_of_change ch)) (sym one) ∙ first)) is.scripts
  no_script_of name script pkg change asked (inr going) becomes first =
      let here = found_in (is_package_named name) r.before pkg going.before in
      let named : package_name pkg ≡ name = (bytes_eq-Decides (package_name pkg) name).0 here.1 in
      let among = in_order (package_name pkg) (map package_name r.before ++ map (λ (c : Candidate). c.name) r.selected)
      (in_left (package_name pkg) (map package_name r.before) (map (λ (c : Candidate). c.name) r.selected) (in_mapped package_name r.before pkg here.0)) in
      let place = member_name_at_place (names_before_and_selected r) (package_name pkg) among in
      let o = found_at place.0 name (place.1 ∙ ap (λ (q : List ℕ). Some q) named) in
      no_script wishes.no_scripts name pkg (scripts_of_change change) None o.0 script asked first
      (ap (λ b. no_member_unless_removal_needs_script wishes.no_scripts name change b) (sym going.before)
      ∙ (ap (λ s. member_of_name_by_selected read inputs.root.repositories wishes.no_scripts (first_read + place.0) name change (find (is_package_named name) r.before) s) (sym going.unselected)
      ∙ (ap (λ ch. member_of_name_by_change read inputs.root.repositories wishes.no_scripts (first_read + place.0) name ch (find (is_package_named name) r.before) (find (is_candidate_named name) r.selected)) (sym becomes) ∙ o.1)))

  -- ---- none is refused

  pub no_package_fault : (refusal : Refusal) → IsFaultOfPackage inputs r wishes read refusal → ⊥
  no_package_fault (PackageMissing name version) is =
      let ok = fine name version None is in let e = ok.is in cc (e)
  no_package_fault (PackageBad name version cause) is =
      let ok = fine name version (Some is.file) is.is_read in no_bad_file is.is_read.candidate is.file cause ok.pkg is.fault ok.is
  no_package_fault (PackageDiffers name version field wanted found) is =
      let ok = fine name version (Some is.file) is.is_read in
      not_other is.is_read.candidate is.file field wanted found (found_ok is.is_read.candidate is.file ok.pkg ok.is).0 is.other
  no_package_fault (ScriptNeeded name script) is = no_script_of name script is.pkg is.change is.asked is.is_package is.becomes is.first
  no_package_fault other is = is
