-- The packages after a change are the selected ones.
use Rattle.std.proofs.Common.{◌≡◌, ◌⊎◌, inl, inr, ◌∙◌, ℕ, suc, ◌+◌, Bool, true, false, List, [], ◌∷◌, ◌++◌, length, map, Option, Some, None, Result, Ok, refl, sym, ap, subst, Less, arith}
use Rattle.std.specs.Prelude.{option_map, bytes_eq}
use Rattle.std.specs.List.{cons_option, find, list_any}
use Rattle.std.proofs.lemmas.Slice.Eq.{bytes_eq-Decides}
use Rattle.outcome.specs.adb_fields.FirstPair.{IsIn}
use Rattle.outcome.specs.adb_fields.Repeated.{package_name}
use Rattle.adb_view.specs.Plain.{Plain}
use Rattle.base_core.proofs.Rising as Names
use Rattle.outcome.proofs.own_core.InOrder.{in_order, in_right, order_rises}
use Rattle.outcome.specs.change_inputs.Chains.{and_then}
use Rattle.outcome.specs.change_inputs.Inputs.{Inputs, first_index_read_number}
use Rattle.outcome.specs.change_outcome.ChangeOutcome.{ChangeWishes, members_after_change}
use Rattle.outcome.specs.change_outcome.MembersAfter.{MemberFound, added_package_by_path, added_member_found, members_after, found_members, member_of_name_after, member_of_name_by_change, member_of_name_by_selected, added_member_unless_script_needed, no_member_unless_removal_needs_script, members_of_names_after, kept_member_found}
use Rattle.outcome.specs.change_outcome.PackageFiles.{AddedPackage, package_file_path_of_candidate, scripts_of_change, unless_script_needed}
use Rattle.outcome.specs.db_core.Members.{member_name}
use Rattle.outcome.specs.db_core.Packages.{is_package_named}
use Rattle.outcome.specs.make_info.Reads.{Reads}
use Rattle.outcome.specs.package_changes.Changes.{Replacement, change_between, change_of_name, is_candidate_this_package, is_candidate_named, names_before_and_selected, change_by_is_same_and_is_again}
use Rattle.outcome.specs.candidate_core.Candidates.{Candidate}
use Rattle.report_core.specs.Reports.{Change}
use Rattle.report_core.specs.declared.refusal.Refusal.{Refusal}
use Rattle.refusal_laws.specs.AddedPackages.{selected_candidate_of_name}
use Rattle.refusal_laws.specs.PackagesAfter.{AreSelectedMembers, IsAddedMember, IsSelectedMember, IsUnchangedMember}
use Rattle.refusal_laws.proofs.Coming.{IsNameAt, brought, script_ok}
use Rattle.refusal_laws.proofs.Lists.{and_then_ok, found_in, in_found, in_mapped}
use Rattle.refusal_laws.proofs.PackageFaults.{AreNamesFrom, all_names, first_name, other_names}

-- ---- a name of which nothing becomes

-- by its package before and its selected candidate: it has neither, or they are the same
abbrev AreSame : Option Plain → Option Candidate → Type 0
AreSame None None = Unit {0}
AreSame None (Some c) = ⊥
AreSame (Some pkg) None = ⊥
AreSame (Some pkg) (Some c) = is_candidate_this_package pkg c ≡ true

same_where_unchanged : (is_again : Bool) (name : List ℕ) (before : Option Plain) (selected : Option Candidate) → change_between is_again name before selected ≡ None → AreSame before selected
same_where_unchanged is_again name None None e = tt
same_where_unchanged is_again name None (Some c) e = absurd (cc (e))
same_where_unchanged is_again name (Some pkg) None e = absurd (cc (e))
same_where_unchanged is_again name (Some pkg) (Some c) e = by_test (is_candidate_this_package pkg c) e
  where
    by_test : (b : Bool) → change_by_is_same_and_is_again name pkg c b is_again ≡ None → b ≡ true
    by_test true e = refl
    by_test false e = absurd (cc (e))

unchanged_same : (r : Replacement) (name : List ℕ) → change_of_name r name ≡ None → AreSame (find (is_package_named name) r.before) (find (is_candidate_named name) r.selected)
unfolding change_of_name
unchanged_same r name e = same_where_unchanged (list_any (bytes_eq name) r.again) name (find (is_package_named name) r.before) (find (is_candidate_named name) r.selected) e

module _ (inputs : Inputs) (r : Replacement) (wishes : ChangeWishes) (read : Reads) where
  -- ---- one name

  pub record IsFoundFor (name : List ℕ) (f : MemberFound) : Type 0 where
    pub named : member_name f.member ≡ name
    pub candidate : Candidate
    pub selected : selected_candidate_of_name r name ≡ Some candidate
    pub is : IsUnchangedMember r name candidate f ⊎ IsAddedMember inputs r read name f

  abbrev IfFound : List ℕ → Option MemberFound → Type 0
  IfFound name None = selected_candidate_of_name r name ≡ None
  IfFound name (Some f) = IsFoundFor name f

  abbrev kept_found : Option MemberFound → Result (Option MemberFound) Refusal
  kept_found o = Ok o

  stays : (name : List ℕ) (before : Option Plain) (selected : Option Candidate) (o : Option MemberFound) → find (is_package_named name) r.before ≡ before → selected_candidate_of_name r name ≡ selected
      → change_of_name r name ≡ None → AreSame before selected → kept_found (option_map kept_member_found before) ≡ kept_found o → IfFound name o
  stays name None None o is chosen none same e = let nothing : None ≡ o = cc in subst (IfFound name) nothing chosen
  stays name None (Some c) o is chosen none same e = absurd same
  stays name (Some pkg) None o is chosen none same e = absurd same
  stays name (Some pkg) (Some c) o is chosen none same e =
      let found : Some (kept_member_found pkg) ≡ o = cc in
      subst (IfFound name) found (record {
        named = (bytes_eq-Decides (package_name pkg) name).0 (found_in (is_package_named name) r.before pkg is).1;
        candidate = c;
        selected = chosen;
        is = inl (record { pkg = pkg; before = is; same = same; becomes = none; is = refl });
      })

  comes : (n : ℕ) (name : List ℕ) (change : Change) (c : Candidate) (o : Option MemberFound) → IsNameAt inputs r n name → selected_candidate_of_name r name ≡ Some c → change_of_name r name ≡ Some change
      → added_member_unless_script_needed read inputs.root.repositories wishes.no_scripts n name change c ≡ Ok o → IfFound name o
  comes n name change c o at selected becomes e =
      let pkg = and_then_ok (added_package_by_path read n c (package_file_path_of_candidate inputs.root.repositories c)) (λ pkg.
      unless_script_needed wishes.no_scripts name pkg.value (scripts_of_change change) (Some (added_member_found pkg))) o e in
      let is = brought inputs r wishes read n name at change becomes c selected pkg.0 pkg.1 in
      let named : c.name ≡ name = (bytes_eq-Decides c.name name).0 (found_in (is_candidate_named name) r.selected c selected).1 in
      let one : is.is_read.candidate ≡ c = (let both = is.is_read.selected in cc) in
      subst (IfFound name) (script_ok wishes.no_scripts name pkg.0.value (scripts_of_change change) (Some (added_member_found pkg.0)) o pkg.2)
      (record {
        named = ap (λ (p : AddedPackage). package_name p.value) is.is_package ∙ (is.as_selected.name ∙ (ap (λ (d : Candidate). d.name) one ∙ named));
        candidate = c;
        selected = selected;
        is = inr (record { pkg = pkg.0; brought = is; is = refl });
      })

  goes : (name : List ℕ) (change : Change) (before : Option Plain) (o : Option MemberFound) → selected_candidate_of_name r name ≡ None → no_member_unless_removal_needs_script wishes.no_scripts name change before ≡ Ok o → IfFound name o
  goes name change None o none e = let same : None ≡ o = cc in subst (IfFound name) same none
  goes name change (Some pkg) o none e = subst (IfFound name) (script_ok wishes.no_scripts name pkg (scripts_of_change change) None o e) none

  selected_found : (n : ℕ) (name : List ℕ) (change : Change) (selected : Option Candidate) (o : Option MemberFound) → IsNameAt inputs r n name → selected_candidate_of_name r name ≡ selected → change_of_name r name ≡ Some change
      → member_of_name_by_selected read inputs.root.repositories wishes.no_scripts n name change (find (is_package_named name) r.before) selected ≡ Ok o → IfFound name o
  selected_found n name change None o at is becomes e = goes name change (find (is_package_named name) r.before) o is e
  selected_found n name change (Some c) o at is becomes e = comes n name change c o at is becomes e

  change_found : (n : ℕ) (name : List ℕ) (change : Option Change) (o : Option MemberFound) → IsNameAt inputs r n name → change_of_name r name ≡ change
      → member_of_name_by_change read inputs.root.repositories wishes.no_scripts n name change (find (is_package_named name) r.before) (find (is_candidate_named name) r.selected) ≡ Ok o → IfFound name o
  change_found n name None o at becomes e = stays name (find (is_package_named name) r.before) (find (is_candidate_named name) r.selected) o refl refl becomes (unchanged_same r name becomes) e
  change_found n name (Some change) o at becomes e = selected_found n name change (find (is_candidate_named name) r.selected) o at refl becomes e

  name_found : (n : ℕ) (name : List ℕ) (o : Option MemberFound) → IsNameAt inputs r n name → member_of_name_after r read inputs.root.repositories wishes.no_scripts n name ≡ Ok o → IfFound name o
  name_found n name o at e = change_found n name (change_of_name r name) o at refl e

  -- ---- all of them

  -- of these names, in their order
  pub record AreFoundFor (names : List (List ℕ)) (fs : List MemberFound) : Type 0 where
    pub rises : Names.Rises (map member_name (found_members fs))
    pub within : (q : List ℕ) → Names.IsIn q (map member_name (found_members fs)) → Names.IsIn q names
    pub each : (f : MemberFound) → IsIn f fs → IsSelectedMember inputs r read f
    pub all : (q : List ℕ) (c : Candidate) → Names.IsIn q names → selected_candidate_of_name r q ≡ Some c → (f : MemberFound) × IsIn f fs × (member_name f.member ≡ q)

  none_selected : (q name : List ℕ) (c : Candidate) → q ≡ name → selected_candidate_of_name r name ≡ None → selected_candidate_of_name r q ≡ Some c → ⊥
  none_selected q name c is none some = let same : selected_candidate_of_name r q ≡ None = ap (selected_candidate_of_name r) is ∙ none in cc

  member_of : (name : List ℕ) (f : MemberFound) → IsFoundFor name f → IsSelectedMember inputs r read f
  member_of name f found =
      let P : List ℕ → Type 0 = λ q. (c : Candidate) × (selected_candidate_of_name r q ≡ Some c) × (IsUnchangedMember r q c f ⊎ IsAddedMember inputs r read q f) in
      let is = subst P (sym found.named) (found.candidate, found.selected, found.is) in
      record { candidate = is.0; selected = is.1; is = is.2 }

  one_more : (name : List ℕ) (names : List (List ℕ)) (first : Option MemberFound) (fs : List MemberFound) → Names.Rises (name ∷ names) → IfFound name first → AreFoundFor names fs
      → AreFoundFor (name ∷ names) (cons_option first fs)
  one_more name names None fs rises none are = record {
    rises = are.rises;
    within = λ q here. inr (are.within q here);
    each = are.each;
    all = λ q c here some. elim here [ inl is ↦ absurd (none_selected q name c is none some) | inr more ↦ are.all q c more some ];
  }
  one_more name names (Some f) fs rises found are = record {
    rises = ((λ q here. subst (λ (x : List ℕ). Names.order x q ≡ Less) (sym found.named) (rises.0 q (are.within q here))), are.rises);
    within = λ q here. elim here [ inl is ↦ inl (is ∙ found.named) | inr more ↦ inr (are.within q more) ];
    each = λ g here. elim here [ inl is ↦ subst (IsSelectedMember inputs r read) (sym is) (member_of name f found) | inr more ↦ are.each g more ];
    all = λ q c here some. elim here [
      | inl is ↦ (f, inl refl, found.named ∙ sym is)
      | inr more ↦ (let other = are.all q c more some in (other.0, inr other.1, other.2))
    ];
  }

  names_found : (n place : ℕ) (names : List (List ℕ)) (fs : List MemberFound) → first_index_read_number + length inputs.root.repositories + place ≡ n → AreNamesFrom r place names → Names.Rises names
      → members_of_names_after r read inputs.root.repositories wishes.no_scripts n names ≡ Ok fs → AreFoundFor names fs
  names_found n place [] fs number are rises e =
      let same : [] ≡ fs = cc in
      subst (AreFoundFor []) same (record { rises = tt; within = λ q here. absurd here; each = λ f here. absurd here; all = λ q c here some. absurd here })
  names_found n place (name ∷ names) fs number are rises e =
      let first = and_then_ok (member_of_name_after r read inputs.root.repositories wishes.no_scripts n name) (λ first.
      and_then (members_of_names_after r read inputs.root.repositories wishes.no_scripts (suc n) names) (λ others.
      Ok (cons_option first others))) fs e in
      let others = and_then_ok (members_of_names_after r read inputs.root.repositories wishes.no_scripts (suc n) names) (λ others. Ok (cons_option first.0 others)) fs first.2 in
      let same : cons_option first.0 others.0 ≡ fs = (let last = others.2 in cc) in
      subst (AreFoundFor (name ∷ names)) same
      (one_more name names first.0 others.0 rises
      (name_found n name first.0 (record { place = place; is_place = first_name r place name names are; is_number = number }) first.1)
      (names_found (suc n) (suc place) names others.0 (omega (arith, number)) (other_names r place name names are) rises.1 others.1))

  all_found : (fs : List MemberFound) → members_after_change inputs r wishes read ≡ Ok fs → AreFoundFor (names_before_and_selected r) fs
  unfolding members_after
  all_found fs e =
      names_found (first_index_read_number + length inputs.root.repositories) 0 (names_before_and_selected r) fs (omega arith) (all_names r) (order_rises _) e

  is_one_side : (c : Candidate) → IsIn c r.selected → Names.IsIn c.name (names_before_and_selected r)
  is_one_side c here =
      in_order c.name (map package_name r.before ++ map (λ (c : Candidate). c.name) r.selected)
      (in_right c.name (map package_name r.before) (map (λ (c : Candidate). c.name) r.selected) (in_mapped (λ (c : Candidate). c.name) r.selected c here))

  pub selected_ones : (fs : List MemberFound) → members_after_change inputs r wishes read ≡ Ok fs → AreSelectedMembers inputs r read fs
  selected_ones fs e =
      let are = all_found fs e in
      record {
        in_order = Names.pairs_from_rises (map member_name (found_members fs)) are.rises;
        each = are.each;
        all = λ c here.
            (let some = in_found (is_candidate_named c.name) r.selected c here ((bytes_eq-Decides c.name c.name).1 refl) in
            are.all c.name some.0 (is_one_side c here) some.1);
      }
