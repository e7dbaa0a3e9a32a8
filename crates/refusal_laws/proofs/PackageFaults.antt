-- A change that is refused for a package is refused for its fault.
use Rattle.std.proofs.Common.{◌≡◌, inl, inr, ◌∙◌, ℕ, suc, ◌+◌, List, [], ◌∷◌, length, Option, Some, None, Ok, Err, refl, ap, arith}
use Rattle.std.specs.Prelude.{slice_get}
use Rattle.std.specs.List.{cons_option, find}
use Rattle.adb_view.specs.Plain.{Plain}
use Rattle.outcome.specs.change_inputs.Chains.{and_then}
use Rattle.outcome.specs.change_inputs.Inputs.{Inputs, first_index_read_number}
use Rattle.outcome.specs.change_outcome.ChangeOutcome.{ChangeWishes, members_after_change}
use Rattle.outcome.specs.change_outcome.MembersAfter.{MemberFound, added_package_by_path, added_member_found, members_after, member_of_name_after, member_of_name_by_change, member_of_name_by_selected, added_member_unless_script_needed, no_member_unless_removal_needs_script, members_of_names_after}
use Rattle.outcome.specs.change_outcome.PackageFiles.{package_file_path_of_candidate, scripts_of_change, unless_script_needed}
use Rattle.outcome.specs.db_core.Packages.{is_package_named}
use Rattle.outcome.specs.make_info.Reads.{Reads}
use Rattle.outcome.specs.package_changes.Changes.{Replacement, change_of_name, is_candidate_named, names_before_and_selected}
use Rattle.outcome.specs.candidate_core.Candidates.{Candidate}
use Rattle.report_core.specs.Reports.{Change}
use Rattle.report_core.specs.declared.refusal.Refusal.{Refusal}
use Rattle.refusal_laws.specs.AddedPackages.{selected_candidate_of_name}
use Rattle.refusal_laws.specs.ChangeFaults.{IsFaultOfPackage}
use Rattle.refusal_laws.proofs.Coming.{IsNameAt, brought, coming_fault, script_fault}
use Rattle.refusal_laws.proofs.Lists.{and_then_err}

-- ---- names from a place on

-- the names behind so many
abbrev pub AreNamesFrom : Replacement → ℕ → List (List ℕ) → Type 0
AreNamesFrom r place names = (i : ℕ) (name : List ℕ) → slice_get names i ≡ Some name → slice_get (names_before_and_selected r) (place + i) ≡ Some name

pub first_name : (r : Replacement) (place : ℕ) (name : List ℕ) (names : List (List ℕ)) → AreNamesFrom r place (name ∷ names) → slice_get (names_before_and_selected r) place ≡ Some name
first_name r place name names are = let e : place ≡ place + 0 = omega arith in ap (slice_get (names_before_and_selected r)) e ∙ are 0 name refl

pub other_names : (r : Replacement) (place : ℕ) (name : List ℕ) (names : List (List ℕ)) → AreNamesFrom r place (name ∷ names) → AreNamesFrom r (suc place) names
other_names r place name names are i q e = let k : suc place + i ≡ place + suc i = omega arith in ap (slice_get (names_before_and_selected r)) k ∙ are (suc i) q e

pub all_names : (r : Replacement) → AreNamesFrom r 0 (names_before_and_selected r)
all_names r i q e = let k : 0 + i ≡ i = omega arith in ap (slice_get (names_before_and_selected r)) k ∙ e

module _ (inputs : Inputs) (r : Replacement) (wishes : ChangeWishes) (read : Reads) where
  abbrev IsSo : Refusal → Type 0
  IsSo refusal = IsFaultOfPackage inputs r wishes read refusal

  -- ---- one name

  goes_fault : (name : List ℕ) (change : Change) (before : Option Plain) (refusal : Refusal) → find (is_package_named name) r.before ≡ before → selected_candidate_of_name r name ≡ None → change_of_name r name ≡ Some change
      → no_member_unless_removal_needs_script wishes.no_scripts name change before ≡ Err refusal → IsSo refusal
  goes_fault name change None refusal is unselected becomes e = absurd (cc (e))
  goes_fault name change (Some pkg) refusal is unselected becomes e =
      script_fault inputs r wishes read name pkg change None refusal (inr (record { before = is; unselected = unselected })) becomes e

  comes_fault : (n : ℕ) (name : List ℕ) (change : Change) (c : Candidate) (refusal : Refusal) → IsNameAt inputs r n name → selected_candidate_of_name r name ≡ Some c → change_of_name r name ≡ Some change
      → added_member_unless_script_needed read inputs.root.repositories wishes.no_scripts n name change c ≡ Err refusal → IsSo refusal
  comes_fault n name change c refusal at selected becomes e =
      elim (and_then_err (added_package_by_path read n c (package_file_path_of_candidate inputs.root.repositories c)) (λ pkg.
      unless_script_needed wishes.no_scripts name pkg.value (scripts_of_change change) (Some (added_member_found pkg))) refusal e) [
        | inl first ↦ coming_fault inputs r wishes read n name at change becomes c selected refusal first
        | inr next ↦ script_fault inputs r wishes read name next.0.value change (Some (added_member_found next.0)) refusal
            (inl (next.0, brought inputs r wishes read n name at change becomes c selected next.0 next.1, refl)) becomes next.2
      ]

  selected_fault : (n : ℕ) (name : List ℕ) (change : Change) (selected : Option Candidate) (refusal : Refusal) → IsNameAt inputs r n name → selected_candidate_of_name r name ≡ selected → change_of_name r name ≡ Some change
      → member_of_name_by_selected read inputs.root.repositories wishes.no_scripts n name change (find (is_package_named name) r.before) selected ≡ Err refusal → IsSo refusal
  selected_fault n name change None refusal at is becomes e = goes_fault name change (find (is_package_named name) r.before) refusal refl is becomes e
  selected_fault n name change (Some c) refusal at is becomes e = comes_fault n name change c refusal at is becomes e

  change_fault : (n : ℕ) (name : List ℕ) (change : Option Change) (refusal : Refusal) → IsNameAt inputs r n name → change_of_name r name ≡ change
      → member_of_name_by_change read inputs.root.repositories wishes.no_scripts n name change (find (is_package_named name) r.before) (find (is_candidate_named name) r.selected) ≡ Err refusal → IsSo refusal
  change_fault n name None refusal at becomes e = absurd (cc (e))
  change_fault n name (Some change) refusal at becomes e = selected_fault n name change (find (is_candidate_named name) r.selected) refusal at refl becomes e

  name_fault : (n : ℕ) (name : List ℕ) (refusal : Refusal) → IsNameAt inputs r n name → member_of_name_after r read inputs.root.repositories wishes.no_scripts n name ≡ Err refusal → IsSo refusal
  name_fault n name refusal at e = change_fault n name (change_of_name r name) refusal at refl e

  -- ---- all of them

  names_fault : (n place : ℕ) (names : List (List ℕ)) (refusal : Refusal) → first_index_read_number + length inputs.root.repositories + place ≡ n → AreNamesFrom r place names
      → members_of_names_after r read inputs.root.repositories wishes.no_scripts n names ≡ Err refusal → IsSo refusal
  names_fault n place [] refusal number are e = absurd (cc (e))
  names_fault n place (name ∷ names) refusal number are e =
      elim (and_then_err (member_of_name_after r read inputs.root.repositories wishes.no_scripts n name) (λ first.
      and_then (members_of_names_after r read inputs.root.repositories wishes.no_scripts (suc n) names) (λ others.
      Ok (cons_option first others))) refusal e) [
        | inl first ↦ name_fault n name refusal (record { place = place; is_place = first_name r place name names are; is_number = number }) first
        | inr next ↦ by_others next.0 next.2 (names_fault (suc n) (suc place) names refusal (omega (arith, number)) (other_names r place name names are))
      ]
    where
      by_others : (first : Option MemberFound) → and_then (members_of_names_after r read inputs.root.repositories wishes.no_scripts (suc n) names) (λ others. Ok (cons_option first others)) ≡ Err refusal
          → (members_of_names_after r read inputs.root.repositories wishes.no_scripts (suc n) names ≡ Err refusal → IsSo refusal) → IsSo refusal
      by_others first e more =
          elim (and_then_err (members_of_names_after r read inputs.root.repositories wishes.no_scripts (suc n) names) (λ others. Ok (cons_option first others)) refusal e) [
            | inl others ↦ more others
            | inr last ↦ absurd (no_refusal (cons_option first last.0) last.2)
          ]
        where
          no_refusal : (fs : List MemberFound) → Ok fs ≡ Err refusal → ⊥
          no_refusal fs e = cc (e)

  pub members_fault : (refusal : Refusal) → members_after_change inputs r wishes read ≡ Err refusal → IsFaultOfPackage inputs r wishes read refusal
  unfolding members_after
  members_fault refusal e =
      names_fault (first_index_read_number + length inputs.root.repositories) 0 (names_before_and_selected r) refusal (omega arith) (all_names r) e
