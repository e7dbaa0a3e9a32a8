-- What a name comes to, by what becomes of its package.
use Rattle.std.proofs.Common.{◌≡◌, ℕ, Bool, true, false, List, [], ◌∷◌, Option, Some, None, Result, Ok, Err, refl, sym, ap, ◌∙◌, subst}
use Rattle.std.specs.Prelude.{option_map}
use Rattle.adb_view.specs.Plain.{Plain}
use Rattle.base_core.specs.Tree.{TreeState}
use Rattle.change_inputs.specs.Chains.{and_then}
use Rattle.change_outcome.specs.MembersAfter.{MemberFound, added_package_by_path, added_member_found, member_of_name_by_change, member_of_name_by_selected, added_member_unless_script_needed, no_member_unless_removal_needs_script, kept_member_found}
use Rattle.change_outcome.specs.PackageFiles.{AddedPackage, first_script_number_of_package, package_file_path_of_candidate, scripts_of_change, unless_script_number, unless_script_needed}
use Rattle.dep_core.specs.Repositories.{Repository}
use Rattle.change_inputs.specs.make_info.Reads.{Reads}
use Rattle.package_changes.specs.Placed.{PlacedName, candidate_at_new_place, package_at_old_place}
use Rattle.change_inputs.specs.candidate_core.Candidates.{Candidate}
use Rattle.change_inputs.specs.candidate_core.Rank.{SelectionProblem}
use Rattle.report_core.specs.Reports.{Change}
use Rattle.report_core.specs.declared.refusal.Refusal as Refusals
use Rattle.change_outcome.specs.Arrivals.{IsMemberRead, IsPackageRead}
use Rattle.change_outcome.specs.NameReads.{IsAnswerByRead, IsByRead, IsNameRead, added_package_read, member_of_name_by_read}
use Rattle.package_verifier.specs.declared.package.TestedPackage.{TestedPackage}
use Rattle.change_outcome.specs.declared.arrivals.MemberRead.TheVariants.{Comes}
use Rattle.change_outcome.proofs.NameAnswers.{by_any_read}

-- a package that comes, as it is found
abbrev pub as_found : Result AddedPackage Refusals.Refusal → Result (Option MemberFound) Refusals.Refusal
as_found r = and_then r (λ pkg. Ok (Some (added_member_found pkg)))

found_by_number : (name : List ℕ) (n : Option ℕ) (pkg : AddedPackage) → unless_script_number name n (Some (added_member_found pkg)) ≡ as_found (unless_script_number name n pkg)
found_by_number name None pkg = refl
found_by_number name (Some k) pkg = refl

found_by_script : (no_scripts : Bool) (name : List ℕ) (numbers : List ℕ) (pkg : AddedPackage) → unless_script_needed no_scripts name pkg.value numbers (Some (added_member_found pkg)) ≡ as_found (unless_script_needed no_scripts name pkg.value numbers pkg)
found_by_script true name numbers pkg = refl
found_by_script false name numbers pkg = found_by_number name (first_script_number_of_package pkg.value numbers) pkg

found_after : (no_scripts : Bool) (name : List ℕ) (numbers : List ℕ) (r : Result AddedPackage Refusals.Refusal) → and_then r (λ pkg. unless_script_needed no_scripts name pkg.value numbers (Some (added_member_found pkg))) ≡ as_found (and_then r (λ pkg. unless_script_needed no_scripts name pkg.value numbers pkg))
found_after no_scripts name numbers (Ok pkg) = found_by_script no_scripts name numbers pkg
found_after no_scripts name numbers (Err refusal) = refl

module _ (before : List Plain) (pool : SelectionProblem) (repositories : List Repository) (no_scripts : Bool) (n : PlacedName) where
  pub by_none : (h : List TreeState) → n.change ≡ None → IsByRead h (member_of_name_by_read before pool repositories no_scripts n) (Ok (option_map kept_member_found (package_at_old_place before n)))
  by_none h is = by_any_read h _ _ (λ read k. ap (λ o. member_of_name_by_change read repositories no_scripts k n.name o (package_at_old_place before n) (candidate_at_new_place pool n)) is)

  pub goes : (change : Change) → n.change ≡ Some change → candidate_at_new_place pool n ≡ None → (read : Reads) (k : ℕ) → member_of_name_by_read before pool repositories no_scripts n read k ≡ no_member_unless_removal_needs_script no_scripts n.name change (package_at_old_place before n)
  goes change is none read k =
      ap (λ o. member_of_name_by_change read repositories no_scripts k n.name o (package_at_old_place before n) (candidate_at_new_place pool n)) is
      ∙ ap (member_of_name_by_selected read repositories no_scripts k n.name change (package_at_old_place before n)) none

  pub comes : (change : Change) (c : Candidate) → n.change ≡ Some change → candidate_at_new_place pool n ≡ Some c → (read : Reads) (k : ℕ) → member_of_name_by_read before pool repositories no_scripts n read k ≡ as_found (added_package_read repositories no_scripts n.name change c read k)
  comes change c is some read k =
      ap (λ o. member_of_name_by_change read repositories no_scripts k n.name o (package_at_old_place before n) (candidate_at_new_place pool n)) is
      ∙ (ap (member_of_name_by_selected read repositories no_scripts k n.name change (package_at_old_place before n)) some
      ∙ found_after no_scripts n.name (scripts_of_change change) (added_package_by_path read k c (package_file_path_of_candidate repositories c)))

  pub comes_refused : (change : Change) (c : Candidate) → n.change ≡ Some change → candidate_at_new_place pool n ≡ Some c → (read : Reads) (k : ℕ) (refusal : Refusals.Refusal) → added_package_read repositories no_scripts n.name change c read k ≡ Err refusal → member_of_name_by_read before pool repositories no_scripts n read k ≡ Err refusal
  comes_refused change c is some read k refusal refused = comes change c is some read k ∙ ap as_found refused

  pub comes_found : (h : List TreeState) (change : Change) (c : Candidate) (pkg : TestedPackage) → n.change ≡ Some change → candidate_at_new_place pool n ≡ Some c
      → (b : AddedPackage) × IsByRead h (added_package_read repositories no_scripts n.name change c) (Ok b) × IsPackageRead h pkg b
      → (m : Option MemberFound) × IsByRead h (member_of_name_by_read before pool repositories no_scripts n) (Ok m) × IsNameRead h before (Some (Comes pkg)) m
  comes_found h change c pkg is some (b, by, r) = (
    Some (added_member_found b),
    record { found = by.found; is = λ read k finds. comes change c is some read k ∙ ap as_found (by.is read k finds) },
    (b, r, refl),
  )
