-- The reads on which the packages after a change rest.
use Rattle.std.proofs.Common.{◌≡◌, ℕ, suc, ◌+◌, ◌≤◌, Bool, List, [], ◌∷◌, length, Option, Some, None, Result, Ok, Err, refl, ap, ◌∙◌, arith}
use Rattle.std.specs.List.{cons_option, find}
use Rattle.adb_view.specs.Plain.{Plain}
use Rattle.change_inputs.specs.Chains.{and_then}
use Rattle.change_inputs.specs.Inputs.{first_index_read_number}
use Rattle.change_outcome.specs.MembersAfter.{MemberFound, added_package_by_path, added_member_found, members_after, member_of_name_after, member_of_name_by_change, members_of_names_after}
use Rattle.change_outcome.specs.PackageFiles.{AddedPackage, package_file_path_of_candidate, added_package_or_refusal, scripts_of_change, unless_script_needed}
use Rattle.db_core.specs.Packages.{is_package_named}
use Rattle.dep_core.specs.Repositories.{Repository}
use Rattle.change_inputs.specs.make_info.Reads.{Reads}
use Rattle.package_changes.specs.Changes.{Replacement, change_of_name, is_candidate_named, names_before_and_selected}
use Rattle.change_inputs.specs.candidate_core.Candidates.{Candidate}
use Rattle.report_core.specs.Reports.{Change}
use Rattle.report_core.specs.declared.refusal.Refusal as Refusals

module _ (r : Replacement) (read other : Reads) (repositories : List Repository) (no_scripts : Bool) where
  same_file : (n : ℕ) (c : Candidate) (path : Option (List ℕ)) → ((name : List ℕ) → read n name ≡ other n name) → added_package_by_path read n c path ≡ added_package_by_path other n c path
  same_file n c None same = refl
  same_file n c (Some path) same = ap (added_package_or_refusal c) (same path)

  same_name : (n : ℕ) (name : List ℕ) (change : Option Change) (before : Option Plain) (selected : Option Candidate) → ((name : List ℕ) → read n name ≡ other n name) → member_of_name_by_change read repositories no_scripts n name change before selected ≡ member_of_name_by_change other repositories no_scripts n name change before selected
  same_name n name None before selected same = refl
  same_name n name (Some change) before None same = refl
  same_name n name (Some change) before (Some c) same =
      ap (λ (x : Result AddedPackage Refusals.Refusal). and_then x (λ pkg. unless_script_needed no_scripts name pkg.value (scripts_of_change change) (Some (added_member_found pkg)))) (same_file n c (package_file_path_of_candidate repositories c) same)

  same_names : (n : ℕ) (names : List (List ℕ)) → ((k : ℕ) (name : List ℕ) → n ≤ k → read k name ≡ other k name) → members_of_names_after r read repositories no_scripts n names ≡ members_of_names_after r other repositories no_scripts n names
  same_names n [] same = refl
  same_names n (name ∷ names) same =
      let here : member_of_name_after r read repositories no_scripts n name ≡ member_of_name_after r other repositories no_scripts n name = same_name n name (change_of_name r name) (find (is_package_named name) r.before) (find (is_candidate_named name) r.selected) (λ q. same n q (omega arith)) in
      let rest : members_of_names_after r read repositories no_scripts (suc n) names ≡ members_of_names_after r other repositories no_scripts (suc n) names = same_names (suc n) names (λ k q le. same k q (omega (arith, le))) in
      λ i. and_then (here i) (λ first. and_then (rest i) (λ others. Ok (cons_option first others)))

  pub later_reads : ((n : ℕ) (name : List ℕ) → first_index_read_number + length repositories ≤ n → read n name ≡ other n name) → members_after r read repositories no_scripts ≡ members_after r other repositories no_scripts
  unfolding members_after
  later_reads same = same_names (first_index_read_number + length repositories) (names_before_and_selected r) same
