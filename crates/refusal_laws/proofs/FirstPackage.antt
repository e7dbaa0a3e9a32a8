-- A package that is refused is the first one with a fault, and has no other.
use Rattle.std.proofs.Common.{◌≡◌, ⊎_elim, inl, inr, ◌∙◌, ℕ, zero, suc, ◌+◌, ◌<◌, Bool, false, true, List, [], ◌∷◌, ◌++◌, length, map, Option, Some, None, Result, Ok, Err, refl, ap, sym, arith, true≢false}
use Rattle.std.specs.Prelude.{bytes_eq, slice_get}
use Rattle.std.specs.List.{cons_option, find}
use Rattle.std.specs.Ordering.{is_lt}
use Rattle.std.proofs.lemmas.Bool.{cases_lt, false_from_ne_true}
use Rattle.std.proofs.lemmas.Option.{get_or_from_slice_get, slice_get_within}
use Rattle.std.proofs.lemmas.Slice.Eq.{bytes_eq-Decides}
use Rattle.outcome.specs.adb_fields.Repeated.{package_name}
use Rattle.adb_view.specs.Plain.{Plain}
use Rattle.base_core.specs.declared.cause.Cause.{Cause}
use Rattle.base_core.proofs.Rising as Names
use Rattle.outcome.proofs.own_core.InOrder.{in_left, in_order, order_rises}
use Rattle.outcome.specs.change_inputs.Chains.{and_then}
use Rattle.outcome.specs.change_inputs.Inputs.{Inputs, first_index_read_number}
use Rattle.outcome.specs.change_outcome.ChangeOutcome.{ChangeWishes, members_after_change}
use Rattle.outcome.specs.change_outcome.MembersAfter.{MemberFound, added_package_by_path, added_member_found, members_after, member_of_name_after, member_of_name_by_change, member_of_name_by_selected, added_member_unless_script_needed, no_member_unless_removal_needs_script, members_of_names_after}
use Rattle.outcome.specs.change_outcome.PackageFiles.{AddedPackage, first_script_number_of_package, package_file_path_of_candidate, added_package_or_refusal, package_in_file, scripts_of_change, unless_script_number, package_unless_bad_or_different, unless_script_needed}
use Rattle.outcome.specs.db_core.Packages.{is_package_named}
use Rattle.outcome.specs.file_owners.Replaces.{package_version_text}
use Rattle.base_core.specs.ByteOrder.{precedes}
use Rattle.base_core.proofs.Orderings.{precedes_one_way}
use Rattle.outcome.specs.make_info.Reads.{Reads}
use Rattle.outcome.specs.package_changes.Changes.{Replacement, change_of_name, is_candidate_named, names_before_and_selected, candidate_version_text}
use Rattle.outcome.proofs.path_clashes.PairOrder.{precedes_itself}
use Rattle.outcome.specs.pkg_core.Whole.{package_fault}
use Rattle.outcome.specs.candidate_core.Candidates.{Candidate, is_same_id_by_nonempty_prefix}
use Rattle.report_core.specs.Reports.{Change}
use Rattle.report_core.specs.declared.refusal.Refusal.{Refusal}
use Rattle.report_core.specs.declared.refusal.Refusal.TheVariants.{PackageBad, PackageDiffers, PackageMissing, ScriptNeeded}
use Rattle.refusal_laws.specs.ChangeFaults.{IsFaultOfPackage}
use Rattle.refusal_laws.specs.AddedPackages.{IsSoundFileWithIdNameAndVersionOf, IsFileReadForAddedPackage, selected_candidate_of_name}
use Rattle.refusal_laws.specs.FirstPackage.{HasNoOtherFaultInSameOrEarlierPackage, refused_name}
use Rattle.refusal_laws.specs.PackageFaults.{IsAddedOrRemoved, IsFirstOfIdNameVersionThatDiffers}
use Rattle.refusal_laws.proofs.Coming.{by_fields, different_err, path_is, script_err}
use Rattle.refusal_laws.proofs.FoundPackages.{member_name_at_place}
use Rattle.refusal_laws.proofs.Lists.{and_then_err, found_in, in_mapped}

-- ---- the name that a refusal tells

candidate_named : (name : List ℕ) (cs : List Candidate) (c : Candidate) → find (is_candidate_named name) cs ≡ Some c → c.name ≡ name
candidate_named name cs c e = (bytes_eq-Decides c.name name).0 (found_in (is_candidate_named name) cs c e).1

found_name : (c : Candidate) (file : Option (List ℕ)) (refusal : Refusal) → added_package_or_refusal c file ≡ Err refusal → refused_name refusal ≡ c.name
found_name c None refusal e = let told : PackageMissing c.name (candidate_version_text c) ≡ refusal = cc in ap refused_name (sym told)
found_name c (Some file) refusal e = by_fault (package_fault file) e
  where
    by_fault : (fault : Option Cause) → package_unless_bad_or_different c fault (package_in_file file) ≡ Err refusal → refused_name refusal ≡ c.name
    by_fault None e = ap refused_name (sym (different_err c (package_in_file file) refusal e).4)
    by_fault (Some cause) e = let told : PackageBad c.name (candidate_version_text c) cause ≡ refusal = cc in ap refused_name (sym told)

script_name : {A : Type 0} (no_scripts : Bool) (name : List ℕ) (pkg : Plain) (numbers : List ℕ) (a : A) (refusal : Refusal) → unless_script_needed no_scripts name pkg numbers a ≡ Err refusal → refused_name refusal ≡ name
script_name no_scripts name pkg numbers a refusal e = ap refused_name (sym (script_err no_scripts name pkg numbers a refusal e).3)

script_is : {A : Type 0} (no_scripts : Bool) (name : List ℕ) (pkg : Plain) (numbers : List ℕ) (a : A) (script : ℕ) → no_scripts ≡ false → first_script_number_of_package pkg numbers ≡ Some script
    → unless_script_needed no_scripts name pkg numbers a ≡ Err (ScriptNeeded name script)
script_is no_scripts name pkg numbers a script asked first = ap (λ b. unless_script_needed b name pkg numbers a) asked ∙ ap (λ o. unless_script_number name o a) first

-- what passes all tests is found
found_so : (c : Candidate) (file : List ℕ) → IsSoundFileWithIdNameAndVersionOf c file → added_package_or_refusal c (Some file) ≡ Ok (package_in_file file)
found_so c file is =
    ap (λ o. package_unless_bad_or_different c o (package_in_file file)) is.sound
    ∙ (λ i. by_fields c (package_in_file file) (is.id i) ((bytes_eq-Decides c.name (package_name (package_in_file file).value)).1 (sym is.name) i)
    ((bytes_eq-Decides (candidate_version_text c) (package_version_text (package_in_file file).value)).1 (sym is.version) i))

-- two texts that differ are not equal as bytes
apart_bytes : (a b wanted found : List ℕ) → wanted ≡ a → found ≡ b → (wanted ≡ found → ⊥) → bytes_eq a b ≡ false
apart_bytes a b wanted found w f differ = false_from_ne_true (bytes_eq a b) (λ same. differ (w ∙ ((bytes_eq-Decides a b).0 same ∙ sym f)))

module _ (inputs : Inputs) (r : Replacement) (wishes : ChangeWishes) (read : Reads) where
  abbrev first_read : ℕ
  first_read = first_index_read_number + length inputs.root.repositories

  abbrev of_name : ℕ → List ℕ → Result (Option MemberFound) Refusal
  of_name n name = member_of_name_after r read inputs.root.repositories wishes.no_scripts n name

  abbrev with_scripts : List ℕ → Change → AddedPackage → Result (Option MemberFound) Refusal
  with_scripts name change pkg = unless_script_needed wishes.no_scripts name pkg.value (scripts_of_change change) (Some (added_member_found pkg))

  -- ---- of the name that is refused

  told_name : (n : ℕ) (name : List ℕ) (refusal : Refusal) → of_name n name ≡ Err refusal → refused_name refusal ≡ name
  told_name n name refusal e = by_change (change_of_name r name) (find (is_package_named name) r.before) (find (is_candidate_named name) r.selected) (λ c is. candidate_named name r.selected c is) e
    where
      comes : (change : Change) (c : Candidate) → c.name ≡ name → added_member_unless_script_needed read inputs.root.repositories wishes.no_scripts n name change c ≡ Err refusal → refused_name refusal ≡ name
      comes change c named e =
          elim (and_then_err (added_package_by_path read n c (package_file_path_of_candidate inputs.root.repositories c)) (with_scripts name change) refusal e) [
            | inl first ↦ found_name c _ refusal (sym (path_is read n c (package_file_path_of_candidate inputs.root.repositories c)) ∙ first) ∙ named
            | inr next ↦ script_name wishes.no_scripts name next.0.value (scripts_of_change change) (Some (added_member_found next.0)) refusal next.2
          ]

      goes : (change : Change) (before : Option Plain) → no_member_unless_removal_needs_script wishes.no_scripts name change before ≡ Err refusal → refused_name refusal ≡ name
      goes change None e = absurd (cc (e))
      goes change (Some pkg) e = script_name wishes.no_scripts name pkg (scripts_of_change change) None refusal e

      by_change : (change : Option Change) (before : Option Plain) (c : Option Candidate) → ((x : Candidate) → c ≡ Some x → x.name ≡ name)
          → member_of_name_by_change read inputs.root.repositories wishes.no_scripts n name change before c ≡ Err refusal → refused_name refusal ≡ name
      by_change None before c named e = absurd (cc (e))
      by_change (Some change) before None named e = goes change before e
      by_change (Some change) before (Some c) named e = comes change c (named c refl) e

  -- ---- where it stands

  record IsRefusedAt (n : ℕ) (names : List (List ℕ)) (refusal : Refusal) : Type 0 where
    pub place : ℕ
    pub name : List ℕ
    pub at : slice_get names place ≡ Some name
    pub refused : of_name (n + place) name ≡ Err refusal
    pub before : (i : ℕ) (q : List ℕ) → i < place → slice_get names i ≡ Some q → (o : Option MemberFound) × (of_name (n + i) q ≡ Ok o)

  refused_in : (n : ℕ) (names : List (List ℕ)) (refusal : Refusal) → members_of_names_after r read inputs.root.repositories wishes.no_scripts n names ≡ Err refusal → IsRefusedAt n names refusal
  refused_in n [] refusal e = absurd (cc (e))
  refused_in n (name ∷ names) refusal e =
      elim (and_then_err (of_name n name) (λ first. and_then (members_of_names_after r read inputs.root.repositories wishes.no_scripts (suc n) names) (λ others. Ok (cons_option first others))) refusal e) [
        | inl first ↦ record { place = 0; name = name; at = refl; refused = (let k : n + 0 ≡ n = omega arith in ap (λ m. of_name m name) k ∙ first); before = λ i q less. absurd (omega arith) }
        | inr next ↦ by_others next.0 next.1 next.2 (λ others. refused_in (suc n) names refusal others)
      ]
    where
      behind : (first : Option MemberFound) → of_name n name ≡ Ok first → IsRefusedAt (suc n) names refusal → IsRefusedAt n (name ∷ names) refusal
      behind first ok more = record {
        place = suc more.place;
        name = more.name;
        at = more.at;
        refused = (let k : n + suc more.place ≡ suc n + more.place = omega arith in ap (λ m. of_name m more.name) k ∙ more.refused);
        before = before;
      }
        where
          before : (i : ℕ) (q : List ℕ) → i < suc more.place → slice_get (name ∷ names) i ≡ Some q → (o : Option MemberFound) × (of_name (n + i) q ≡ Ok o)
          before zero q less at = (first, (let k : n + zero ≡ n = omega arith in let same : q ≡ name = cc in (λ j. of_name (k j) (same j)) ∙ ok))
          before (suc i) q less at = let o = more.before i q (omega arith) at in (o.0, (let k : n + suc i ≡ suc n + i = omega arith in ap (λ m. of_name m q) k ∙ o.1))

      by_others : (first : Option MemberFound) → of_name n name ≡ Ok first → and_then (members_of_names_after r read inputs.root.repositories wishes.no_scripts (suc n) names) (λ others. Ok (cons_option first others)) ≡ Err refusal
          → (members_of_names_after r read inputs.root.repositories wishes.no_scripts (suc n) names ≡ Err refusal → IsRefusedAt (suc n) names refusal) → IsRefusedAt n (name ∷ names) refusal
      by_others first ok e more =
          elim (and_then_err (members_of_names_after r read inputs.root.repositories wishes.no_scripts (suc n) names) (λ others. Ok (cons_option first others)) refusal e) [
            | inl others ↦ behind first ok (more others)
            | inr last ↦ absurd (no_refusal (cons_option first last.0) last.2)
          ]
        where
          no_refusal : (fs : List MemberFound) → Ok fs ≡ Err refusal → ⊥
          no_refusal fs e = cc (e)

  -- ---- each fault is the refusal of its package

  record IsToldAt (refusal : Refusal) : Type 0 where
    pub place : ℕ
    pub at : slice_get (names_before_and_selected r) place ≡ Some (refused_name refusal)
    pub told : of_name (first_read + place) (refused_name refusal) ≡ Err refusal

  comes_is : (n : ℕ) (name : List ℕ) (change : Change) (c : Candidate) → change_of_name r name ≡ Some change → selected_candidate_of_name r name ≡ Some c
      → of_name n name ≡ added_member_unless_script_needed read inputs.root.repositories wishes.no_scripts n name change c
  comes_is n name change c becomes selected =
      ap (λ ch. member_of_name_by_change read inputs.root.repositories wishes.no_scripts n name ch (find (is_package_named name) r.before) (find (is_candidate_named name) r.selected)) becomes
      ∙ ap (λ s. member_of_name_by_selected read inputs.root.repositories wishes.no_scripts n name change (find (is_package_named name) r.before) s) selected

  file_is : (name version : List ℕ) (file : Option (List ℕ)) (is : IsFileReadForAddedPackage inputs r read name version file) → of_name (first_read + is.place) name ≡ and_then (added_package_or_refusal is.candidate file) (with_scripts name is.change)
  file_is name version file is =
      comes_is (first_read + is.place) name is.change is.candidate is.becomes is.selected
      ∙ ap (λ p. and_then p (with_scripts name is.change)) (path_is read (first_read + is.place) is.candidate (package_file_path_of_candidate inputs.root.repositories is.candidate) ∙ ap (added_package_or_refusal is.candidate) is.is_file)

  named : (name version : List ℕ) (file : Option (List ℕ)) (is : IsFileReadForAddedPackage inputs r read name version file) → is.candidate.name ≡ name
  named name version file is = candidate_named name r.selected is.candidate is.selected

  different_told : (name version file : List ℕ) (is : IsFileReadForAddedPackage inputs r read name version (Some file)) (field : ℕ) (wanted found : List ℕ) → package_fault file ≡ None
      → IsFirstOfIdNameVersionThatDiffers is.candidate (package_in_file file) field wanted found → added_package_or_refusal is.candidate (Some file) ≡ Err (PackageDiffers name version field wanted found)
  different_told name version file is field wanted found sound other = ap (λ o. package_unless_bad_or_different is.candidate o (package_in_file file)) sound ∙ by other
    where
      by : IsFirstOfIdNameVersionThatDiffers is.candidate (package_in_file file) field wanted found
          → by_fields is.candidate (package_in_file file) (is_same_id_by_nonempty_prefix is.candidate.id (package_in_file file).id) (bytes_eq is.candidate.name (package_name (package_in_file file).value)) (bytes_eq (candidate_version_text is.candidate) (package_version_text (package_in_file file).value)) ≡ Err (PackageDiffers name version field wanted found)
      by (inl (field_is, (wanted_is, found_is, off))) =
          ap (λ a. by_fields is.candidate (package_in_file file) a (bytes_eq is.candidate.name (package_name (package_in_file file).value)) (bytes_eq (candidate_version_text is.candidate) (package_version_text (package_in_file file).value))) ((λ i. is_same_id_by_nonempty_prefix (sym wanted_is i) (sym found_is i)) ∙ off)
          ∙ (λ i. Err (PackageDiffers (named name version (Some file) is i) (is.has_version i) (sym field_is i) (sym wanted_is i) (sym found_is i)))
      by (inr (inl (field_is, same_id, (wanted_is, found_is, differ)))) =
          (λ i. by_fields is.candidate (package_in_file file) (same_id i) (apart_bytes is.candidate.name (package_name (package_in_file file).value) wanted found wanted_is found_is differ i) (bytes_eq (candidate_version_text is.candidate) (package_version_text (package_in_file file).value)))
          ∙ (λ i. Err (PackageDiffers (named name version (Some file) is i) (is.has_version i) (sym field_is i) (sym wanted_is i) (sym found_is i)))
      by (inr (inr (field_is, same_id, same_name, (wanted_is, found_is, differ)))) =
          (λ i. by_fields is.candidate (package_in_file file) (same_id i) ((bytes_eq-Decides is.candidate.name (package_name (package_in_file file).value)).1 same_name i)
          (apart_bytes (candidate_version_text is.candidate) (package_version_text (package_in_file file).value) wanted found wanted_is found_is differ i))
          ∙ (λ i. Err (PackageDiffers (named name version (Some file) is i) (is.has_version i) (sym field_is i) (sym wanted_is i) (sym found_is i)))

  script_told : (name : List ℕ) (script : ℕ) (pkg : Plain) (change : Change) → wishes.no_scripts ≡ false → IsAddedOrRemoved inputs r read name pkg → change_of_name r name ≡ Some change
      → first_script_number_of_package pkg (scripts_of_change change) ≡ Some script → IsToldAt (ScriptNeeded name script)
  script_told name script pkg change asked (inl (coming, brought, value)) becomes first =
      let is = brought.is_read in
      let same : (package_in_file brought.file).value ≡ pkg = sym (value ∙ ap (λ (p : AddedPackage). p.value) brought.is_package) in
      let one : is.change ≡ change = (let both = sym is.becomes ∙ becomes in cc) in
      record {
        place = is.place;
        at = is.is_place;
        told =
            file_is name brought.version (Some brought.file) is
            ∙ (ap (λ p. and_then p (with_scripts name is.change)) (found_so is.candidate brought.file brought.as_selected)
            ∙ script_is wishes.no_scripts name (package_in_file brought.file).value (scripts_of_change is.change) (Some (added_member_found (package_in_file brought.file))) script asked
            ((λ i. first_script_number_of_package (same i) (scripts_of_change (one i))) ∙ first));
      }
  script_told name script pkg change asked (inr going) becomes first =
      let here = found_in (is_package_named name) r.before pkg going.before in
      let named_so : package_name pkg ≡ name = (bytes_eq-Decides (package_name pkg) name).0 here.1 in
      let among = in_order (package_name pkg) (map package_name r.before ++ map (λ (c : Candidate). c.name) r.selected)
      (in_left (package_name pkg) (map package_name r.before) (map (λ (c : Candidate). c.name) r.selected) (in_mapped package_name r.before pkg here.0)) in
      let place = member_name_at_place (names_before_and_selected r) (package_name pkg) among in
      record {
        place = place.0;
        at = place.1 ∙ ap (λ (q : List ℕ). Some q) named_so;
        told =
            ap (λ ch. member_of_name_by_change read inputs.root.repositories wishes.no_scripts (first_read + place.0) name ch (find (is_package_named name) r.before) (find (is_candidate_named name) r.selected)) becomes
            ∙ (ap (λ s. member_of_name_by_selected read inputs.root.repositories wishes.no_scripts (first_read + place.0) name change (find (is_package_named name) r.before) s) going.unselected
            ∙ (ap (λ b. no_member_unless_removal_needs_script wishes.no_scripts name change b) going.before
            ∙ script_is wishes.no_scripts name pkg (scripts_of_change change) None script asked first));
      }

  fault_told : (refusal : Refusal) → IsFaultOfPackage inputs r wishes read refusal → IsToldAt refusal
  fault_told (PackageMissing name version) is = record {
    place = is.place;
    at = is.is_place;
    told = file_is name version None is ∙ (λ i. Err (PackageMissing (named name version None is i) (is.has_version i)));
  }
  fault_told (PackageBad name version cause) bad =
      let is = bad.is_read in
      record {
        place = is.place;
        at = is.is_place;
        told =
            file_is name version (Some bad.file) is
            ∙ (ap (λ o. and_then (package_unless_bad_or_different is.candidate o (package_in_file bad.file)) (with_scripts name is.change)) bad.fault
            ∙ (λ i. Err (PackageBad (named name version (Some bad.file) is i) (is.has_version i) cause)));
      }
  fault_told (PackageDiffers name version field wanted found) other =
      let is = other.is_read in
      record {
        place = is.place;
        at = is.is_place;
        told =
            file_is name version (Some other.file) is
            ∙ ap (λ p. and_then p (with_scripts name is.change)) (different_told name version other.file is field wanted found other.sound other.other);
      }
  fault_told (ScriptNeeded name script) is = script_told name script is.pkg is.change is.asked is.is_package is.becomes is.first
  fault_told other is = absurd is

  -- ---- the first

  in_order_so : (p q : ℕ) (a b : List ℕ) → p < q → slice_get (names_before_and_selected r) p ≡ Some a → slice_get (names_before_and_selected r) q ≡ Some b → precedes a b ≡ true
  in_order_so p q a b less at_a at_b =
      let names = names_before_and_selected r in
      let pairs = Names.pairs_from_rises names (order_rises (map package_name r.before ++ map (λ (c : Candidate). c.name) r.selected)) in
      (λ i. precedes (sym (get_or_from_slice_get names p a [] at_a) i) (sym (get_or_from_slice_get names q b [] at_b) i)) ∙ ap is_lt (pairs p q [] less (slice_get_within names q b at_b))

  module _ (refusal : Refusal) (at : IsRefusedAt first_read (names_before_and_selected r) refusal) where
    told_here : refused_name refusal ≡ at.name
    told_here = told_name (first_read + at.place) at.name refusal at.refused

    not_earlier : (other : Refusal) (told : IsToldAt other) → told.place < at.place → ⊥
    not_earlier other told less =
        let ok = at.before told.place (refused_name other) less told.at in
        let both : Err other ≡ Ok ok.0 = sym told.told ∙ ok.1 in cc (both)

    same_place : (other : Refusal) (told : IsToldAt other) → told.place ≡ at.place → (refused_name other ≡ at.name) × (other ≡ refusal)
    same_place other told same =
        let both : Some (refused_name other) ≡ Some at.name = sym told.at ∙ (ap (slice_get (names_before_and_selected r)) same ∙ at.at) in
        let name : refused_name other ≡ at.name = cc in
        let refusals : Err other ≡ Err refusal = sym told.told ∙ ((λ i. of_name (first_read + same i) (name i)) ∙ at.refused) in
        (name, (let e : other ≡ refusal = cc in e))

    first_so : (other : Refusal) → IsFaultOfPackage inputs r wishes read other → precedes (refused_name other) (refused_name refusal) ≡ false
    first_so other is = by (fault_told other is)
      where
        by : IsToldAt other → precedes (refused_name other) (refused_name refusal) ≡ false
        by told =
            ⊎_elim (λ less. absurd (not_earlier other told less))
            (λ upto. ⊎_elim (λ less. ap (precedes (refused_name other)) told_here ∙ precedes_one_way at.name (refused_name other) (in_order_so at.place told.place at.name (refused_name other) less at.at told.at))
            (λ more. (λ i. precedes ((same_place other told (omega arith)).0 i) (told_here i)) ∙ precedes_itself at.name) (cases_lt at.place told.place)) (cases_lt told.place at.place)

    only_so : (other : Refusal) → IsFaultOfPackage inputs r wishes read other → refused_name other ≡ refused_name refusal → other ≡ refusal
    only_so other is name = by (fault_told other is)
      where
        by : IsToldAt other → other ≡ refusal
        by told =
            ⊎_elim (λ less. absurd (not_earlier other told less))
            (λ upto. ⊎_elim (λ less. absurd (true≢false (sym (in_order_so at.place told.place at.name (refused_name other) less at.at told.at)
            ∙ (ap (precedes at.name) (name ∙ told_here) ∙ precedes_itself at.name))))
            (λ more. (same_place other told (omega arith)).1) (cases_lt at.place told.place)) (cases_lt told.place at.place)

  pub first_refused : (refusal : Refusal) → members_after_change inputs r wishes read ≡ Err refusal → HasNoOtherFaultInSameOrEarlierPackage inputs r wishes read refusal
  unfolding members_after
  first_refused refusal e =
      let at = refused_in first_read (names_before_and_selected r) refusal e in
      record { first = first_so refusal at; only = only_so refusal at }
