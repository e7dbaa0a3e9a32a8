-- The packages after a change come out of sound containers, and are in order.
use Rattle.std.proofs.Common.{◌≡◌, inl, inr, ◌∙◌, ℕ, suc, ◌+◌, ◌<◌, Bool, true, false, cond, List, [], ◌∷◌, length, map, Option, Some, None, Result, Ok, Err, refl, sym, ap, subst, Less}
use Rattle.std.specs.Prelude.{All, not, option_map, bytes_eq, if◌then◌else◌}
use Rattle.std.specs.Option.{option_or}
use Rattle.std.specs.List.{cons_option, find}
use Rattle.std.proofs.lemmas.Slice.Eq.{bytes_eq-Decides}
use Rattle.sha2.proofs.Facts256.{length-sha256}
use Rattle.make_core.specs.adb_fields.FirstPair.{IsIn}
use Rattle.make_core.specs.adb_fields.Repeated.{package_name}
use Rattle.make_core.specs.adb_schema.Rules.{is_digest_length}
use Rattle.make_core.specs.adb_schema.SoundContainers.{IsSoundContainerExceptContents}
use Rattle.make_core.specs.adb_schema.Soundness.{container_fault_except_contents, payload_in, root_value_of_payload}
use Rattle.adb_view.specs.declared.tables.Which.TheVariants.{Package}
use Rattle.adb_view.specs.Plain.{Plain}
use Rattle.base_core.specs.declared.cause.Cause.{Cause}
use Rattle.base_core.proofs.Rising as Names
use Rattle.base_core.proofs.Causes.{first_none}
use Rattle.engine_core.proofs.own_core.InOrder.{order_rises}
use Rattle.engine_core.specs.change_inputs.Chains.{and_then}
use Rattle.engine_core.specs.change_inputs.Inputs.{first_index_read_number}
use Rattle.engine_core.proofs.change_outcome.Made.{and_then_ok}
use Rattle.engine_core.specs.change_outcome.MembersAfter.{MemberFound, added_package_by_path, added_member_found, members_after, found_members, member_of_name_after, member_of_name_by_change, member_of_name_by_selected, added_member_unless_script_needed, no_member_unless_removal_needs_script, members_of_names_after, kept_member_found}
use Rattle.engine_core.specs.change_outcome.PackageFiles.{AddedPackage, package_file_path_of_candidate, added_package_or_refusal, package_in_file, scripts_of_change, package_unless_other_than_candidate, unless_script_number, package_unless_bad_or_different, unless_script_needed, first_script_number_of_package}
use Rattle.engine_core.specs.db_core.Members.{AreMembersInNameOrder, Member, member_name}
use Rattle.engine_core.specs.db_core.Packages.{is_package_named}
use Rattle.engine_core.specs.db_core.SoundMembers.{AreMembersOfSoundContainers, IsPackageOfSoundContainer}
use Rattle.dep_core.specs.Repositories.{Repository}
use Rattle.engine_core.specs.file_owners.Replaces.{package_version_text}
use Rattle.make_core.proofs.IndexSound.{payload_all}
use Rattle.make_core.specs.make_info.Reads.{Reads}
use Rattle.engine_core.specs.package_changes.Changes.{Replacement, change_of_name, is_candidate_named, names_before_and_selected, candidate_version_text}
use Rattle.make_core.specs.pkg_core.Contents.{fault_of_files_read}
use Rattle.make_core.specs.pkg_core.Whole.{files_read_from_package, package_fault, payload_sha256_of_package_file}
use Rattle.engine_core.specs.candidate_core.Candidates.{Candidate, is_same_id_by_nonempty_prefix}
use Rattle.report_core.specs.Reports.{Change}
use Rattle.report_core.specs.declared.refusal.Refusal.{Refusal}
use Rattle.definition_laws.specs.roots.RootLeft.{AreAllReadFilesBytes}
use Rattle.definition_laws.proofs.roots.SoundBefore.{AllSound}

-- what the laws of the crates below say
abbrev pub FilesMayCome : Type 0
FilesMayCome = (file id : List ℕ) → IsSoundContainerExceptContents Package file → All (λ b. b < 256) (payload_in file) → is_digest_length (length id) ≡ true → IsPackageOfSoundContainer (root_value_of_payload Package (payload_in file)) (Some id)

abbrev pub PackagesAreTested : Type 0
PackagesAreTested = (file : List ℕ) → package_fault file ≡ option_or (container_fault_except_contents Package file) (fault_of_files_read (files_read_from_package file))

-- ---- one package

pub record IsFoundAs (name : List ℕ) (m : Member) : Type 0 where
  pub sound : IsPackageOfSoundContainer m.pkg m.id
  pub named : member_name m ≡ name

abbrev IfFound : List ℕ → Option MemberFound → Type 0
IfFound name None = Unit {0}
IfFound name (Some f) = IsFoundAs name f.member

found_in : {X : Type 0} (test : X → Bool) (xs : List X) (x : X) → find test xs ≡ Some x → IsIn x xs × (test x ≡ true)
found_in test [] x e = absurd (cc (e))
found_in test (y ∷ ys) x e = by_test (test y) refl e (found_in test ys x)
  where
    by_test : (b : Bool) → test y ≡ b → cond b (Some y) (find test ys) ≡ Some x → (find test ys ≡ Some x → IsIn x ys × (test x ≡ true)) → IsIn x (y ∷ ys) × (test x ≡ true)
    by_test true t e more = let same : y ≡ x = cc in (inl (sym same), ap test (sym same) ∙ t)
    by_test false t e more = let behind = more e in (inr behind.0, behind.1)

some_same : {X : Type 0} (x y : X) → Some x ≡ Some y → x ≡ y
some_same x y e = (cc)

abbrev kept_package : Result AddedPackage Refusal → Result AddedPackage Refusal
kept_package r = r

abbrev kept_found : Option MemberFound → Result (Option MemberFound) Refusal
kept_found o = Ok o

module _ (come : FilesMayCome) (tested : PackagesAreTested) (read : Reads) (bytes : AreAllReadFilesBytes read) where
  -- its name and its version are the candidate's
  different_ok : (c : Candidate) (pkg p : AddedPackage) → package_unless_other_than_candidate c pkg ≡ Ok p → (p ≡ pkg) × (package_name pkg.value ≡ c.name)
  different_ok c pkg p e = by_tests _ _ _ (is_same_id_by_nonempty_prefix c.id pkg.id) (bytes_eq c.name (package_name pkg.value)) (bytes_eq (candidate_version_text c) (package_version_text pkg.value)) refl e
    where
      by_tests : (x y z : Refusal) (a b v : Bool) → bytes_eq c.name (package_name pkg.value) ≡ b
          → kept_package (if not a then Err x else if not b then Err y else if not v then Err z else Ok pkg) ≡ Ok p → (p ≡ pkg) × (package_name pkg.value ≡ c.name)
      by_tests x y z true true true is e = (let same : pkg ≡ p = cc in sym same, sym ((bytes_eq-Decides c.name (package_name pkg.value)).0 is))
      by_tests x y z true true false is e = absurd (cc (e))
      by_tests x y z true false v is e = absurd (cc (e))
      by_tests x y z false b v is e = absurd (cc (e))

  file_ok : (c : Candidate) (file : List ℕ) (pkg : AddedPackage) → All (λ b. b < 256) file → added_package_or_refusal c (Some file) ≡ Ok pkg → IsFoundAs c.name (added_member_found pkg).member
  file_ok c file pkg small e = by_fault (package_fault file) refl e
    where
      by_fault : (fault : Option Cause) → package_fault file ≡ fault → package_unless_bad_or_different c fault (package_in_file file) ≡ Ok pkg → IsFoundAs c.name (added_member_found pkg).member
      by_fault None sound e =
          let is = different_ok c (package_in_file file) pkg e in
          subst (λ (p : AddedPackage). IsFoundAs c.name (added_member_found p).member) (sym is.0)
          (record {
            sound = come file (payload_sha256_of_package_file file) (first_none (container_fault_except_contents Package file) (fault_of_files_read (files_read_from_package file)) (sym (tested file) ∙ sound))
                (payload_all (λ b. b < 256) file small) (ap is_digest_length (length-sha256 (payload_in file)));
            named = is.1;
          })
      by_fault (Some cause) sound e = absurd (cc (e))

  path_ok : (n : ℕ) (c : Candidate) (path : Option (List ℕ)) (pkg : AddedPackage) → added_package_by_path read n c path ≡ Ok pkg → IsFoundAs c.name (added_member_found pkg).member
  path_ok n c None pkg e = absurd (cc (e))
  path_ok n c (Some path) pkg e = by_read (read n path) refl e
    where
      by_read : (o : Option (List ℕ)) → read n path ≡ o → added_package_or_refusal c o ≡ Ok pkg → IsFoundAs c.name (added_member_found pkg).member
      by_read None is e = absurd (cc (e))
      by_read (Some file) is e = file_ok c file pkg (bytes n path file is) e

  script_ok : {A : Type 0} (no_scripts : Bool) (name : List ℕ) (pkg : Plain) (numbers : List ℕ) (a b : A) → unless_script_needed no_scripts name pkg numbers a ≡ Ok b → a ≡ b
  script_ok true name pkg numbers a b e = (cc (e))
  script_ok false name pkg numbers a b e = by_number (first_script_number_of_package pkg numbers) e
    where
      by_number : (o : Option ℕ) → unless_script_number name o a ≡ Ok b → a ≡ b
      by_number None e = (cc (e))
      by_number (Some number) e = absurd (cc (e))

  comes_ok : (repositories : List Repository) (no_scripts : Bool) (n : ℕ) (name : List ℕ) (change : Change) (c : Candidate) (o : Option MemberFound) → c.name ≡ name
      → added_member_unless_script_needed read repositories no_scripts n name change c ≡ Ok o → IfFound name o
  comes_ok repositories no_scripts n name change c o named e =
      let pkg = and_then_ok (added_package_by_path read n c (package_file_path_of_candidate repositories c)) (λ pkg.
      unless_script_needed no_scripts name pkg.value (scripts_of_change change) (Some (added_member_found pkg))) o e in
      subst (IfFound name) (script_ok no_scripts name pkg.0.value (scripts_of_change change) (Some (added_member_found pkg.0)) o pkg.2)
      (subst (λ (q : List ℕ). IsFoundAs q (added_member_found pkg.0).member) named (path_ok n c (package_file_path_of_candidate repositories c) pkg.0 pkg.1))

  goes_ok : (no_scripts : Bool) (name : List ℕ) (change : Change) (before : Option Plain) (o : Option MemberFound) → no_member_unless_removal_needs_script no_scripts name change before ≡ Ok o → IfFound name o
  goes_ok no_scripts name change None o e = let same : None ≡ o = cc in subst (IfFound name) same tt
  goes_ok no_scripts name change (Some pkg) o e = subst (IfFound name) (script_ok no_scripts name pkg (scripts_of_change change) None o e) tt

  module _ (r : Replacement) (before : AllSound r.before) (repositories : List Repository) (no_scripts : Bool) where
    stays_ok : (name : List ℕ) (o : Option Plain) (f : Option MemberFound) → find (is_package_named name) r.before ≡ o → kept_found (option_map kept_member_found o) ≡ kept_found f → IfFound name f
    stays_ok name None f is e = let same : None ≡ f = cc in subst (IfFound name) same tt
    stays_ok name (Some pkg) f is e =
        let same : Some (kept_member_found pkg) ≡ f = cc in
        let here = found_in (is_package_named name) r.before pkg is in
        subst (IfFound name) same (record { sound = before pkg here.0; named = (bytes_eq-Decides (package_name pkg) name).0 here.1 })

    selected_ok : (n : ℕ) (name : List ℕ) (change : Change) (old : Option Plain) (new : Option Candidate) (o : Option MemberFound) → find (is_candidate_named name) r.selected ≡ new
        → member_of_name_by_selected read repositories no_scripts n name change old new ≡ Ok o → IfFound name o
    selected_ok n name change old None o is e = goes_ok no_scripts name change old o e
    selected_ok n name change old (Some c) o is e =
        comes_ok repositories no_scripts n name change c o ((bytes_eq-Decides c.name name).0 (found_in (is_candidate_named name) r.selected c is).1) e

    changed_ok : (n : ℕ) (name : List ℕ) (change : Option Change) (o : Option MemberFound)
        → member_of_name_by_change read repositories no_scripts n name change (find (is_package_named name) r.before) (find (is_candidate_named name) r.selected) ≡ Ok o → IfFound name o
    changed_ok n name None o e = stays_ok name (find (is_package_named name) r.before) o refl e
    changed_ok n name (Some change) o e = selected_ok n name change (find (is_package_named name) r.before) (find (is_candidate_named name) r.selected) o refl e

    name_ok : (n : ℕ) (name : List ℕ) (o : Option MemberFound) → member_of_name_after r read repositories no_scripts n name ≡ Ok o → IfFound name o
    name_ok n name o e = changed_ok n name (change_of_name r name) o e

    -- ---- all of them

    -- of these names, in their order
    abbrev AreFoundOf : List (List ℕ) → List MemberFound → Type 0
    AreFoundOf names fs =
        AreMembersOfSoundContainers (found_members fs)
        × ((q : List ℕ) → Names.IsIn q (map member_name (found_members fs)) → Names.IsIn q names)
        × Names.Rises (map member_name (found_members fs))

    one_more : (name : List ℕ) (names : List (List ℕ)) (first : Option MemberFound) (fs : List MemberFound) → Names.Rises (name ∷ names) → IfFound name first → AreFoundOf names fs
        → AreFoundOf (name ∷ names) (cons_option first fs)
    one_more name names None fs rises found are = (are.0, (λ q here. inr (are.1 q here)), are.2)
    one_more name names (Some f) fs rises found are = (
      (found.sound, are.0),
      (λ q here. elim here [ inl is ↦ inl (is ∙ found.named) | inr more ↦ inr (are.1 q more) ]),
      ((λ q here. subst (λ (x : List ℕ). Names.order x q ≡ Less) (sym found.named) (rises.0 q (are.1 q here))), are.2),
    )

    names_ok : (n : ℕ) (names : List (List ℕ)) (fs : List MemberFound) → Names.Rises names → members_of_names_after r read repositories no_scripts n names ≡ Ok fs → AreFoundOf names fs
    names_ok n [] fs rises e = let same : [] ≡ fs = cc in subst (AreFoundOf []) same (tt, (λ q here. absurd here), tt)
    names_ok n (name ∷ names) fs rises e =
        let first = and_then_ok (member_of_name_after r read repositories no_scripts n name) (λ first.
        and_then (members_of_names_after r read repositories no_scripts (suc n) names) (λ others.
        Ok (cons_option first others))) fs e in
        let others = and_then_ok (members_of_names_after r read repositories no_scripts (suc n) names) (λ others. Ok (cons_option first.0 others)) fs first.2 in
        let same : cons_option first.0 others.0 ≡ fs = (let last = others.2 in cc) in
        subst (AreFoundOf (name ∷ names)) same
        (one_more name names first.0 others.0 rises (name_ok n name first.0 first.1) (names_ok (suc n) names others.0 rises.1 others.1))

    pub members_ok : (fs : List MemberFound) → members_after r read repositories no_scripts ≡ Ok fs → AreMembersOfSoundContainers (found_members fs) × AreMembersInNameOrder (found_members fs)
    unfolding members_after
    members_ok fs e =
        let are = names_ok (first_index_read_number + length repositories) (names_before_and_selected r) fs (order_rises _) e in
        (are.0, Names.pairs_from_rises (map member_name (found_members fs)) are.2)
